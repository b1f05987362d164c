-- What it means that a test passed.
use Rattle.std.proofs.Common.{◌≡◌, ℕ, ◌≤ℤ◌, Bool, true, false, not, ◌&&◌, leb, int_le, int_lt, Ok, Err, ℤ, pos, negsuc, refl, arith}
use Rattle.std.proofs.lemmas.Int.{ints}
use Rattle.std.proofs.lemmas.Bool.{leb-true, le-leb, and_parts, and_from, not_from_true}
use Rattle.cube_core.specs.declared.fault.Fault.{Fault}
use Rattle.cube_core.specs.declared.fault.Field.{Field}
use Rattle.cube_core.specs.Steps.{Test, ◌>>◌, refuse_if}
use Rattle.cube_core.specs.Shape.{InRange}
use Rattle.header_bits.specs.Parts.{fine}
use Rattle.header_bits.specs.Lawful.{IsExponent, in_range_or, exponent_or}

pub then_ok : (a b : Test) → (a >> b) ≡ fine → (a ≡ fine) × (b ≡ fine)
then_ok (Ok t) b e = (refl, e)
then_ok (Err f) b e = absurd cc

-- a test that passed, and those after it
infixr 10 ◌then_fine◌
pub ◌then_fine◌ : {a b : Test} → a ≡ fine → b ≡ fine → (a >> b) ≡ fine
p then_fine q = rw (p, q) refl

-- a test passed, and the next one decides; or it refused
pub passed : {t rest r : Test} → fine ≡ t → r ≡ rest → r ≡ (t >> rest)
passed e h = rw (← e) h

pub refused : {t : Test} {f : Fault} (rest : Test) → Err f ≡ t → Err f ≡ (t >> rest)
refused rest e = rw (← e) refl

-- the refusal that is returned is that of the test
pub told : {r t : Test} {f : Fault} → ((e : Fault) × (r ≡ Err e) × (e ≡ f)) → Err f ≡ t → r ≡ t
told e h = rw (e.1, e.2) h

pub refuse_ok : (b : Bool) (f : Fault) → refuse_if b f ≡ fine → b ≡ false
refuse_ok true f e = absurd cc
refuse_ok false f e = refl

pub refuse_fine : (b : Bool) (f : Fault) → b ≡ false → refuse_if b f ≡ fine
refuse_fine b f e = rw e refl

pub not_false : (b : Bool) → not b ≡ false → b ≡ true
not_false true e = refl
not_false false e = absurd cc

pub in_range_ok : (f : Field) (least most n : ℕ) → in_range_or f least most n ≡ fine → InRange least most n
in_range_ok f least most n e =
    let both = and_parts (leb least n) (leb n most) (not_false (leb least n && leb n most) (refuse_ok _ _ e)) in
    (leb-true least n both.0, leb-true n most both.1)

pub in_range_fine : (f : Field) (least most n : ℕ) → InRange least most n → in_range_or f least most n ≡ fine
in_range_fine f least most n h = refuse_fine _ _ (not_from_true _ (and_from (leb least n) (leb n most) (le-leb least n h.0) (le-leb n most h.1)))

pub le_true : (a b : ℤ) → int_le a b ≡ true → a ≤ℤ b
le_true a b e = grind (arith, ints)

pub true_le : (a b : ℤ) → a ≤ℤ b → int_le a b ≡ true
true_le a b h = grind (arith, ints)

pub lt_false : (a b : ℤ) → int_lt a b ≡ false → b ≤ℤ a
lt_false a b e = grind (arith, ints)

pub false_lt : (a b : ℤ) → b ≤ℤ a → int_lt a b ≡ false
false_lt a b h = grind (arith, ints)

pub exponent_ok : (f : Field) (v : ℤ) → exponent_or f v ≡ fine → IsExponent v
exponent_ok f v e =
    let both = and_parts (int_le (negsuc 5) v) (int_le v (pos 9)) (not_false (int_le (negsuc 5) v && int_le v (pos 9)) (refuse_ok _ _ e)) in
    (le_true (negsuc 5) v both.0, le_true v (pos 9) both.1)

pub exponent_fine : (f : Field) (v : ℤ) → IsExponent v → exponent_or f v ≡ fine
exponent_fine f v h = refuse_fine _ _ (not_from_true _ (and_from (int_le (negsuc 5) v) (int_le v (pos 9)) (true_le (negsuc 5) v h.0) (true_le v (pos 9) h.1)))

-- a rule that stands under a condition
pub under : (b c : Bool) → (b && c) ≡ false → b ≡ true → c ≡ false
under true c e h = e
under false c e h = absurd cc

pub not_under : (b c : Bool) → (b ≡ true → c ≡ false) → (b && c) ≡ false
not_under true c h = h refl
not_under false c h = refl
