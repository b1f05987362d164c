-- Tables in a header: what they hold, and how they are spelt.
use Rattle.std.proofs.Common.{◌≡◌, ◌+◌, ◌-◌, ◌*◌, ◌%◌, ◌^◌, ◌<◌, ◌≤◌, ℕ, zero, suc, Bool, true, false, cond, ltb, List, [], ◌∷◌, ◌++◌, length, take, map}
use Rattle.std.proofs.Common.{replicate, get_or, ℤ, pos, negsuc, ◌-ℤ◌, refl, ap, ◌∙◌, length-append, arith}
use Rattle.std.specs.List.{AllByRecursion}
use Rattle.std.proofs.lemmas.Int.{ints}
use Rattle.std.proofs.lemmas.List.{length-replicate, length-take}
use Rattle.std.proofs.lemmas.Bool.{le-ltb, ltb-false, ltb-true, lt-ltb}
use Rattle.std.proofs.lemmas.Nat.{pow_pos}
use Rattle.cube_core.proofs.Offsets.{doubled}
use Rattle.header_bits.specs.declared.layout.Slot.{Slot}
use Rattle.header_bits.specs.declared.layout.Slot.TheVariants.{Reserved, Plain}
use Rattle.header_bits.specs.Layout.{AreValues}
use Rattle.header_bits.specs.TableParts.{table_fields, signed_of, signed_code}
use Rattle.header_bits.specs.Lawful.{IsSigned}

-- ---- what was read

values_count : (ss : List Slot) (vs : List ℕ) → AreValues ss vs → length vs ≡ length ss
values_count [] [] h = refl
values_count [] (v ∷ vs) h = elim h [ ]
values_count (s ∷ ss) [] h = elim h [ ]
values_count (s ∷ ss) (v ∷ vs) h = ap suc (values_count ss vs h.1)

pub table_count : (count bits : ℕ) (vs : List ℕ) → AreValues (table_fields count bits) vs → length (take count vs) ≡ count
table_count count bits vs h =
    let all = values_count (table_fields count bits) vs h in
    omega (
      arith,
      all,
      length-append (replicate count (Plain bits 0)) (Reserved ((8 - count * bits % 8) % 8) ∷ []),
      length-replicate count (Plain bits 0),
      length-take count vs,
    )

small_from : (count bits : ℕ) (others : List Slot) (vs : List ℕ) → AreValues (replicate count (Plain bits 0) ++ others) vs
    → AllByRecursion (λ v. v < 2 ^ bits) (take count vs)
small_from zero bits others vs h = tt
small_from (suc count) bits others [] h = elim h [ ]
small_from (suc count) bits others (v ∷ vs) h = (omega (arith, h.0), small_from count bits others vs h.1)

pub table_small : (count bits : ℕ) (vs : List ℕ) → AreValues (table_fields count bits) vs → AllByRecursion (λ v. v < 2 ^ bits) (take count vs)
table_small count bits vs h = small_from count bits (Reserved ((8 - count * bits % 8) % 8) ∷ []) vs h

signed_range : (bits code : ℕ) → 1 ≤ bits → code < 2 ^ bits → IsSigned bits (signed_of bits code)
signed_range bits code some lt = by_test (ltb code (2 ^ (bits - 1))) refl
  where
    by_test : (b : Bool) → ltb code (2 ^ (bits - 1)) ≡ b → IsSigned bits (cond b (pos code) (pos code -ℤ pos (2 ^ bits)))
    by_test true e = (let below = ltb-true code (2 ^ (bits - 1)) e in (omega (arith, ints), omega (arith, ints, below)))
    by_test false e =
        (let above = ltb-false code (2 ^ (bits - 1)) e in let two = doubled bits some in (omega (arith, ints, above, two), omega (arith, ints, lt, two)))

pub all_signed : (bits : ℕ) (vs : List ℕ) → 1 ≤ bits → AllByRecursion (λ v. v < 2 ^ bits) vs → AllByRecursion (IsSigned bits) (map (signed_of bits) vs)
all_signed bits [] some h = tt
all_signed bits (v ∷ vs) some h = (signed_range bits v some h.0, all_signed bits vs some h.1)

-- ---- what is written

code_small : (bits : ℕ) (v : ℤ) → 1 ≤ bits → IsSigned bits v → signed_code bits v < 2 ^ bits
code_small bits (pos n) some h = (let two = doubled bits some in omega (arith, ints, h.1, two, pow_pos (bits - 1)))
code_small bits (negsuc n) some h = (let two = doubled bits some in omega (arith, ints, pow_pos bits))

pub codes_small : (bits : ℕ) (vs : List ℤ) → 1 ≤ bits → AllByRecursion (IsSigned bits) vs → AllByRecursion (λ v. v < 2 ^ bits) (map (signed_code bits) vs)
codes_small bits [] some h = tt
codes_small bits (v ∷ vs) some h = (code_small bits v some h.0, codes_small bits vs some h.1)

code_back : (bits : ℕ) (v : ℤ) → 1 ≤ bits → IsSigned bits v → signed_of bits (signed_code bits v) ≡ v
code_back bits (pos n) some h = (let below : ltb n (2 ^ (bits - 1)) ≡ true = lt-ltb n (2 ^ (bits - 1)) (omega (arith, ints, h.1)) in rw below refl)
code_back bits (negsuc n) some h =
    let two = doubled bits some in
    let low : n + 1 ≤ 2 ^ (bits - 1) = omega (arith, ints, h.0) in
    let above : ltb (2 ^ bits - (n + 1)) (2 ^ (bits - 1)) ≡ false = le-ltb (2 ^ bits - (n + 1)) (2 ^ (bits - 1)) (omega (arith, two, low)) in
    rw above (omega (arith, ints, two, low))

pub codes_back : (bits : ℕ) (vs : List ℤ) → 1 ≤ bits → AllByRecursion (IsSigned bits) vs → map (signed_of bits) (map (signed_code bits) vs) ≡ vs
codes_back bits [] some h = refl
codes_back bits (v ∷ vs) some h = ap (λ (x : ℤ). x ∷ map (signed_of bits) (map (signed_code bits) vs)) (code_back bits v some h.0)
    ∙ ap (λ (xs : List ℤ). v ∷ xs) (codes_back bits vs some h.1)

held_from : (bits fill : ℕ) (vs : List ℕ) → AllByRecursion (λ v. v < 2 ^ bits) vs
    → AreValues (replicate (length vs) (Plain bits 0) ++ Reserved fill ∷ []) (vs ++ 0 ∷ [])
held_from bits fill [] h = (pow_pos fill, tt)
held_from bits fill (v ∷ vs) h = ((omega arith, omega (arith, h.0)), held_from bits fill vs h.1)

pub table_held : (bits : ℕ) (vs : List ℕ) → AllByRecursion (λ v. v < 2 ^ bits) vs → AreValues (table_fields (length vs) bits) (vs ++ 0 ∷ [])
table_held bits vs h = held_from bits ((8 - length vs * bits % 8) % 8) vs h

pub table_front : (vs : List ℕ) → take (length vs) (vs ++ 0 ∷ []) ≡ vs
table_front [] = refl
table_front (v ∷ vs) = ap (λ (xs : List ℕ). v ∷ xs) (table_front vs)

pub table_fill : (vs : List ℕ) → get_or (vs ++ 0 ∷ []) (length vs) 0 ≡ 0
table_fill [] = refl
table_fill (v ∷ vs) = table_fill vs
