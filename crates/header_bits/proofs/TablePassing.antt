-- Tables that are looked through.
use Rattle.std.proofs.Common.{◌≡◌, ℕ, zero, suc, ◌+◌, ◌-◌, ◌*◌, ◌<◌, ◌≤◌, Bool, true, false, cond, List, ℤ, length, take, drop, map, Ok, Err, refl, sym, ap}
use Rattle.std.proofs.Common.{subst, ◌∙◌, arith}
use Rattle.std.proofs.lemmas.Bool.{le-ltb}
use Rattle.std.proofs.lemmas.List.{drop-drop}
use Rattle.cube_core.specs.declared.fault.Fault.{Fault}
use Rattle.cube_core.specs.declared.fault.Fault.TheVariants.{ShortHeader, Disagree}
use Rattle.cube_core.specs.declared.fault.Rule.TheVariants as rule
use Rattle.cube_core.specs.Steps.{Test, ◌>>◌, refuse_if}
use Rattle.header_bits.specs.declared.image_part.ImagePart.{ImagePart}
use Rattle.header_bits.specs.declared.predictor_part.PredictorPart.{PredictorPart}
use Rattle.header_bits.specs.declared.coder_part.CoderPart.{CoderPart}
use Rattle.header_bits.specs.declared.coder_part.CoderPart.TheVariants.{Sample, Block}
use Rattle.header_bits.specs.Bits.{number_of}
use Rattle.header_bits.specs.Layout.{total, values}
use Rattle.header_bits.specs.Parts.{Part, fine, reserved_test, part_at, Passes}
use Rattle.header_bits.specs.TableParts.{weight_count, fill_of, table_fields, number_fields, signed_of, weights_by, weights, some_above, constants_by}
use Rattle.header_bits.specs.TableParts.{has_constants, constants}
use Rattle.header_bits.specs.Header.{start_by, coder_by_part}
use Rattle.header_bits.proofs.PartReading.{part_short, part_refused, part_is_read}
use Rattle.header_bits.proofs.TableNumbers.{total_table, table_numbers, table_zeros}

-- the first bit after the numbers, and after the table
pub table_end : (count bits : ℕ) (left : List Bool) → drop (fill_of (count * bits)) (drop (count * bits) left) ≡ drop (total (table_fields count bits)) left
table_end count bits left = drop-drop (fill_of (count * bits)) (count * bits) left ∙ ap (λ n. drop n left) (sym (total_table count bits))

-- a part passes where it is there and its tests are these
passes : {X : Type 0} (part : Part X) (r : Test) (left new : List Bool) → total part.fields ≤ length left → r ≡ part.tests (values part.fields left)
    → new ≡ drop (total part.fields) left → Passes part r left new
passes part (Ok u) left new le e n = part_is_read part left (values part.fields left) (part.contents (values part.fields left)) le refl (sym e) refl
    ∙ ap (λ (x : List Bool). Ok (part.contents (values part.fields left), x)) (sym n)
passes part (Err d) left new le e n = part_refused part left (values part.fields left) d le refl (sym e)

-- ---- the weight table

-- how many weights a table of its own has
abbrev entries_of : ImagePart → PredictorPart → ℕ
entries_of i p = weight_count p.previous p.reduced i.shape.bands

-- the table where it is announced, and where it isn't
abbrev table_of : Bool → ImagePart → PredictorPart → Part (List ℤ)
table_of b i p = weights_by b (entries_of i p) p.resolution

pub weights_absent : (i : ImagePart) (p : PredictorPart) (left : List Bool) → p.custom ≡ false
    → part_at (weights i p) left ≡ Ok ((weights i p).contents (values (weights i p).fields left), left)
unfolding part_at weights total values
weights_absent i p left e = subst (λ (b : Bool). part_at (table_of b i p) left ≡ Ok ((table_of b i p).contents (values (table_of b i p).fields left), left))
    (sym e) (rw (le-ltb (length left) 0 (omega arith)) refl)

pub weights_total : (i : ImagePart) (p : PredictorPart) → p.custom ≡ true → total (weights i p).fields ≡ total (table_fields (entries_of i p) p.resolution)
unfolding weights
weights_total i p e = ap (λ (b : Bool). total (table_of b i p).fields) e

pub no_weights_total : (i : ImagePart) (p : PredictorPart) → p.custom ≡ false → total (weights i p).fields ≡ 0
unfolding weights total
no_weights_total i p e = ap (λ (b : Bool). total (table_of b i p).fields) e

pub weights_short : (i : ImagePart) (p : PredictorPart) (left : List Bool) → p.custom ≡ true → length left < total (table_fields (entries_of i p) p.resolution)
    → part_at (weights i p) left ≡ Err ShortHeader
weights_short i p left e lt = part_short (weights i p) left (rw (weights_total i p e) lt)

pub weights_passed : (i : ImagePart) (p : PredictorPart) (r : Test) (left new : List Bool) → p.custom ≡ true
    → let n = entries_of i p * p.resolution in
    total (table_fields (entries_of i p) p.resolution) ≤ length left → r ≡ reserved_test (136 + n) (fill_of n) (number_of (take (fill_of n) (drop n left)))
    → new ≡ drop (fill_of n) (drop n left) → Passes (weights i p) r left new
unfolding weights
weights_passed i p r left new e le test end =
    let count : ℕ = entries_of i p in
    let n : ℕ = count * p.resolution in
    subst (λ (b : Bool). Passes (table_of b i p) r left new) (sym e)
    (passes (table_of true i p) r left new le (test ∙ ap (reserved_test (136 + n) (fill_of n)) (sym (table_zeros count p.resolution left)))
    (end ∙ table_end count p.resolution left))

-- ---- the accumulator table

-- an entry is above the greatest
abbrev above_fault : ImagePart → List Bool → Test
above_fault i left = refuse_if (some_above (i.kind.bits - 2) (values (number_fields i.shape.bands 4) left)) (Disagree rule.AccumulatorEntry)

pub constants_absent : (at : ℕ) (i : ImagePart) (c : CoderPart) (left : List Bool) → has_constants c ≡ false
    → part_at (constants at i c) left ≡ Ok ((constants at i c).contents (values (constants at i c).fields left), left)
unfolding part_at constants total values
constants_absent at i c left e = subst (λ (b : Bool). part_at (constants_by b at i) left
    ≡ Ok ((constants_by b at i).contents (values (constants_by b at i).fields left), left)) (sym e) (rw (le-ltb (length left) 0 (omega arith)) refl)

pub constants_total : (at : ℕ) (i : ImagePart) (c : CoderPart) → has_constants c ≡ true → total (constants at i c).fields ≡ total (table_fields i.shape.bands 4)
unfolding constants
constants_total at i c e = ap (λ (b : Bool). total (constants_by b at i).fields) e

pub constants_short : (at : ℕ) (i : ImagePart) (c : CoderPart) (left : List Bool) → has_constants c ≡ true → length left < total (table_fields i.shape.bands 4)
    → part_at (constants at i c) left ≡ Err ShortHeader
constants_short at i c left e lt = part_short (constants at i c) left (rw (constants_total at i c e) lt)

constants_tests : (at : ℕ) (i : ImagePart) (left : List Bool) → let n = i.shape.bands * 4 in
    (constants_by true at i).tests (values (constants_by true at i).fields left)
    ≡ (above_fault i left >> reserved_test (at + n) (fill_of n) (number_of (take (fill_of n) (drop n left))))
constants_tests at i left = rw (table_numbers i.shape.bands 4 left, table_zeros i.shape.bands 4 left) refl

pub constants_entry : (at : ℕ) (i : ImagePart) (c : CoderPart) (e : Fault) (left : List Bool) → has_constants c ≡ true
    → total (table_fields i.shape.bands 4) ≤ length left
    → above_fault i left ≡ Err e → part_at (constants at i c) left ≡ Err e
unfolding constants
constants_entry at i c e left there le bad =
    subst (λ (b : Bool). part_at (constants_by b at i) left ≡ Err e) (sym there)
    (part_refused (constants_by true at i) left (values (constants_by true at i).fields left) e le refl (constants_tests at i left ∙ rw bad refl))

pub constants_passed : (at : ℕ) (i : ImagePart) (c : CoderPart) (r : Test) (left new : List Bool) → has_constants c ≡ true
    → let n = i.shape.bands * 4 in
    total (table_fields i.shape.bands 4) ≤ length left → above_fault i left ≡ fine
    → r ≡ reserved_test (at + n) (fill_of n) (number_of (take (fill_of n) (drop n left))) → new ≡ drop (fill_of n) (drop n left)
    → Passes (constants at i c) r left new
unfolding constants
constants_passed at i c r left new there le good test end =
    subst (λ (b : Bool). Passes (constants_by b at i) r left new) (sym there)
    (passes (constants_by true at i) r left new le (test ∙ sym (constants_tests at i left ∙ rw good refl)) (end ∙ table_end i.shape.bands 4 left))

-- ---- the contents of a table, read again

pub start_again : (i : ImagePart) (p : PredictorPart) (left : List Bool)
    → start_by p.custom p.resolution ((weights i p).contents (values (weights i p).fields left))
    ≡ start_by p.custom p.resolution (map (signed_of p.resolution) (values (number_fields (entries_of i p) p.resolution) left))
unfolding weights
start_again i p left = by_flag p.custom
  where
    by_flag : (b : Bool) → start_by b p.resolution ((table_of b i p).contents (values (table_of b i p).fields left))
        ≡ start_by b p.resolution (map (signed_of p.resolution) (values (number_fields (entries_of i p) p.resolution) left))
    by_flag true = rw (table_numbers (entries_of i p) p.resolution left) refl
    by_flag false = refl

pub coder_again : (at : ℕ) (i : ImagePart) (c : CoderPart) (left : List Bool)
    → coder_by_part c ((constants at i c).contents (values (constants at i c).fields left)) ≡ coder_by_part c (values (number_fields i.shape.bands 4) left)
unfolding constants
coder_again at i (Sample umax gamma_star gamma_zero constant true) left = rw (table_numbers i.shape.bands 4 left) refl
coder_again at i (Sample umax gamma_star gamma_zero constant false) left = refl
coder_again at i (Block size restricted reference) left = refl

pub weight_bound : (previous : ℕ) (reduced : Bool) (bands : ℕ) → previous ≤ 15 → weight_count previous reduced bands ≤ 18 * bands
unfolding weight_count
weight_bound previous reduced zero le = omega arith
weight_bound previous reduced (suc z) le = (let before = weight_bound previous reduced z le in let few = directional reduced in omega (arith, before, few, le))
  where
    directional : (b : Bool) → cond b 0 3 ≤ 3
    directional true = omega arith
    directional false = omega arith
