-- The sum that the register takes is small.
use Rattle.std.proofs.Common.{◌≡◌, ◌+◌, ◌-◌, ◌*◌, ◌^◌, ◌<◌, ◌≤◌, ℕ, zero, suc, ℤ, pos, ◌+ℤ◌, ◌-ℤ◌, ◌*ℤ◌, ◌≤ℤ◌, neg_ℤ, unsigned_abs, Bool, true, false, List, []}
use Rattle.std.proofs.Common.{inl, inr, ◌∷◌, replicate, length, if◌then◌else◌, arith, refl, sym, ap, ◌∙◌, le_trans, lt_of_le_of_lt, subst}
use Rattle.std.proofs.lemmas.Int.{ints, unsigned_abs-mul}
use Rattle.std.proofs.lemmas.Bool.{cases_Bool}
use Rattle.std.proofs.lemmas.Nat.{mul-le, pow_pos}
use Rattle.std.proofs.Math.Pow.{pow_mono, pow-add}
use Rattle.cube_core.specs.Kind.{SampleKind, smin, smid, smax}
use Rattle.cube_core.specs.Image.{Image, IsCube, IsPlace}
use Rattle.header_bits.specs.declared.params.Params.{Params}
use Rattle.header_bits.specs.declared.params.WeightStart.{WeightStart}
use Rattle.header_bits.specs.declared.params.WeightStart.TheVariants.{Usual, Table}
use Rattle.header_bits.specs.Lawful.{IsLawful, IsWeightStart}
use Rattle.sample_prediction.specs.Arithmetic.{floor_div}
use Rattle.sample_prediction.specs.declared.predictor.Predictor.{Predictor}
use Rattle.sample_prediction.specs.Predictor.{predictor_of, previous_bands, component_count}
use Rattle.sample_prediction.specs.LocalSum.{local_sum}
use Rattle.sample_prediction.specs.Differences.{difference_vector}
use Rattle.sample_prediction.specs.Weights.{weight_min, weight_max, eighths, default_weights, weights_by, start_weights, updated_weight, updated_weights}
use Rattle.sample_prediction.specs.Prediction.{inner_product, next_weights, weight_vector}
use Rattle.sample_prediction.specs.Mapping.{Between}
use Rattle.sample_prediction.specs.Bounds.{AllWithin}
use Rattle.predict_core.specs.Largest.{RegisterBound, CountedBound, greatest_sum, register_sum}
use Rattle.sample_prediction.proofs.Moves.{clipped_low, clipped_high, limit_within, within_most}
use Rattle.sample_prediction.proofs.Padding.{vector_length}
use Rattle.sample_prediction.proofs.Raising.{raised_bound}
use Rattle.predict_core.proofs.Kept.{wide_of}
use Rattle.predict_core.proofs.Ranges.{within_none, within_append, vector_within, sum_within, apart}
use Rattle.sample_prediction.proofs.Directions.{zeros_within}
use Rattle.sample_prediction.proofs.Inner.{inner_within}
use Rattle.cube_core.proofs.Offsets.{doubled}
use Rattle.sample_prediction.proofs.Spans.{span}
use Rattle.sample_prediction.proofs.Scaled.{halved_shrinks}
use Rattle.sample_prediction.proofs.Tables.{table_within}

-- ---- weights

within_cons : (n : ℕ) (x : ℤ) (xs : List ℤ) → unsigned_abs x ≤ n → AllWithin n xs → AllWithin n (x ∷ xs)
within_cons n x xs h k zero l = h
within_cons n x xs h k (suc i) l = k i (omega (arith, l))

eighths_within : (n : ℕ) (w : ℤ) (k : ℕ) → unsigned_abs w ≤ n → AllWithin n (eighths w k)
unfolding eighths
eighths_within n w zero h = within_none n
eighths_within n w (suc k) h = within_cons n w (eighths (floor_div w 8) k) h (eighths_within n (floor_div w 8) k (le_trans (halved_shrinks w 8) h))

by_mode : (n : ℕ) (b : Bool) (xs : List ℤ) → AllWithin n xs → AllWithin n (if b then xs else pos 0 ∷ pos 0 ∷ pos 0 ∷ xs)
by_mode n true xs h = h
by_mode n false xs h = within_append n (replicate 3 (pos 0)) xs (zeros_within n 3) h

default_within : (p : Predictor) (z : ℕ) → 3 ≤ p.omega → AllWithin (2 ^ (p.omega + 2)) (default_weights p z)
unfolding default_weights
default_within p z least =
    let e : (p.omega - 3) + 5 ≡ p.omega + 2 = omega arith in
    let power : 2 ^ (p.omega + 2) ≡ 2 ^ (p.omega - 3) * 2 ^ 5 = ap (λ k. 2 ^ k) (sym e) ∙ pow-add 2 (p.omega - 3) 5 in
    by_mode (2 ^ (p.omega + 2)) p.reduced (eighths (pos (7 * 2 ^ (p.omega - 3))) (previous_bands p z))
    (eighths_within (2 ^ (p.omega + 2)) (pos (7 * 2 ^ (p.omega - 3))) (previous_bands p z) (omega (arith, power)))

start_within : (p : Params) (z : ℕ) → IsLawful p → AllWithin (2 ^ (p.omega + 2)) (start_weights p z)
unfolding weights_by
start_within p z lawful = by_start p.start lawful.start
  where
    by_start : (s : WeightStart) → IsWeightStart p s → AllWithin (2 ^ (p.omega + 2)) (weights_by (predictor_of p) s z)
    by_start Usual l = default_within (predictor_of p) z (let h = lawful.omega.0 in omega arith)
    by_start (Table q values) l = table_within p q values z l.0.0 l.0.1 l.2

-- a weight that is held between the least and the greatest
held_small : (n : ℕ) (r : ℤ) → neg_ℤ (pos n) ≤ℤ r → r ≤ℤ (pos n -ℤ pos 1) → unsigned_abs r ≤ n
held_small n r low high = omega (arith, ints, low, high)

updated_small : (fraction : ℕ) (exponent : ℤ) (negative : Bool) (w u : ℤ) → unsigned_abs (updated_weight fraction exponent negative w u) ≤ 2 ^ (fraction + 2)
unfolding updated_weight
updated_small fraction exponent negative w u =
    let some : 1 ≤ 2 ^ (fraction + 2) = pow_pos (fraction + 2) in let ordered : weight_min fraction ≤ℤ weight_max fraction = omega (arith, ints, some) in
    held_small (2 ^ (fraction + 2)) _ (clipped_low _ (weight_min fraction) (weight_max fraction) _ refl)
    (clipped_high _ (weight_min fraction) (weight_max fraction) _ ordered refl)

updated_within : (fraction : ℕ) (exponent : ℤ) (negative : Bool) (ws us : List ℤ)
    → AllWithin (2 ^ (fraction + 2)) (updated_weights fraction exponent negative ws us)
unfolding updated_weights
updated_within fraction exponent negative [] us = within_none (2 ^ (fraction + 2))
updated_within fraction exponent negative (w ∷ ws) [] = within_none (2 ^ (fraction + 2))
updated_within fraction exponent negative (w ∷ ws) (u ∷ us) =
    within_cons (2 ^ (fraction + 2)) (updated_weight fraction exponent negative w u) (updated_weights fraction exponent negative ws us)
    (updated_small fraction exponent negative w u) (updated_within fraction exponent negative ws us)

pub weights_within : (p : Params) (c : Image) (z t : ℕ) → IsLawful p → AllWithin (2 ^ (p.omega + 2)) (weight_vector p c z t)
unfolding weight_vector next_weights
weights_within p c z zero lawful = start_within p z lawful
weights_within p c z (suc zero) lawful = start_within p z lawful
weights_within p c z (suc (suc t)) lawful = updated_within p.omega _ _ (weight_vector p c z (suc t)) _

-- ---- the products

few_components : (p : Predictor) (z : ℕ) → p.previous ≤ 15 → component_count p z ≤ 18
few_components p z few = elim (cases_Bool p.reduced) [ inl e ↦ rw e (omega arith) | inr e ↦ rw e (omega arith) ]

-- ---- the local sum

middle_between : (signed : Bool) (bits : ℕ) → 2 ≤ bits
    → Between (smin (record { signed = signed; bits = bits })) (smax (record { signed = signed; bits = bits })) (smid (record { signed = signed; bits = bits }))
middle_between true bits some = (let power = pow_pos (bits - 1) in (omega (arith, ints, power), omega (arith, ints, power)))
middle_between false bits some =
    (let two = doubled bits (omega arith) in let power = pow_pos (bits - 1) in (omega (arith, ints, power), omega (arith, ints, two, power)))

swapped : (a b : ℤ) (n : ℕ) → unsigned_abs (a -ℤ b) ≤ n → unsigned_abs (b -ℤ a) ≤ n
swapped a b n h = omega (arith, ints, h)

product_within : (n m : ℕ) (w u : ℤ) → unsigned_abs w ≤ n → unsigned_abs u ≤ m → unsigned_abs (w *ℤ u) ≤ n * m
product_within n m w u h k = rw (unsigned_abs-mul w u) (mul-le (unsigned_abs w) (unsigned_abs u) n m h k)

-- a sum of as many products as there are components
products_counted : (n m : ℕ) (ws us : List ℤ) → AllWithin n ws → AllWithin m us → unsigned_abs (inner_product ws us) ≤ length us * (n * m)
unfolding inner_product
products_counted n m [] us h k = omega arith
products_counted n m (w ∷ ws) [] h k = omega arith
products_counted n m (w ∷ ws) (u ∷ us) h k =
    let product = product_within n m w u (h 0 (omega arith)) (k 0 (omega arith)) in
    let rest = products_counted n m ws us (λ i l. h (suc i) (omega (arith, l))) (λ i l. k (suc i) (omega (arith, l))) in omega (arith, ints, product, rest)

-- with a number added that is smaller than a product
counted : (a b : ℤ) (n p : ℕ) → unsigned_abs a ≤ n * p → unsigned_abs b < p → unsigned_abs (a +ℤ b) < (n + 1) * p
counted a b n p h k = omega (arith, ints, h, k)

-- the powers of both
raised_power : (f d : ℕ) → 2 ^ (f + 2) * 2 ^ (d + 2) ≡ 2 ^ (f + d + 4)
raised_power f d = sym (pow-add 2 (f + 2) (d + 2)) ∙ ap (λ k. 2 ^ k) (omega arith)

added_power : (f d : ℕ) → 2 ^ f * 2 ^ (d + 2) < 2 ^ (f + d + 4)
added_power f d =
    let e : 2 ^ f * 2 ^ (d + 2) ≡ 2 ^ (f + d + 2) = sym (pow-add 2 f (d + 2)) ∙ ap (λ k. 2 ^ k) (omega arith) in
    let s : 2 ^ (f + d + 4) ≡ 2 ^ (f + d + 2) * 2 ^ 2 = ap (λ k. 2 ^ k) (omega arith) ∙ pow-add 2 (f + d + 2) 2 in
    let some = pow_pos (f + d + 2) in omega (arith, e, s, some)

both_small : (a b : ℤ) (n : ℕ) → n ≤ 2 ^ 21 → unsigned_abs a ≤ 18 * (n * 2 ^ 18) → unsigned_abs b ≤ 2 ^ 37 → unsigned_abs (a +ℤ b) < 2 ^ 45
both_small a b n most h k = omega (arith, ints, h, k)

-- what is predicted from at a place of a cube, by weights between their bounds
module _ (q : Predictor) (c : Image) (z y x : ℕ) (ws : List ℤ) (cube : IsCube c) (place : IsPlace c.shape z y x)
    (later : 0 < y + x) (wide : q.column ≡ false → 2 ≤ c.shape.columns) (few : q.previous ≤ 15) (most : q.omega ≤ 19)
    (within : AllWithin (2 ^ (q.omega + 2)) ws) where
  pub products_small : unsigned_abs (inner_product ws (difference_vector q c z y x)) ≤ 18 * (2 ^ (q.omega + 2) * 2 ^ 18)
  products_small =
      let us : List ℤ = difference_vector q c z y x in let bits : c.kind.bits ≤ 16 = cube.bits.1 in
      let vector = within_most c.kind.bits us bits (vector_within q c cube y x later wide z place) in
      let short : length us ≤ 18 = omega (arith, vector_length q c z y x, few_components q z few) in
      le_trans (inner_within (2 ^ (q.omega + 2)) ws us within vector)
      (mul-le (length us) (2 ^ (q.omega + 2) * 2 ^ 18) 18 (2 ^ (q.omega + 2) * 2 ^ 18) short (omega arith))

  pub register_small : unsigned_abs (inner_product ws (difference_vector q c z y x) +ℤ pos (2 ^ q.omega) *ℤ (local_sum q c z y x -ℤ pos 4 *ℤ smid c.kind))
      < 2 ^ 45
  register_small =
      let bits : c.kind.bits ≤ 16 = cube.bits.1 in let middle = middle_between c.kind.signed c.kind.bits cube.bits.0 in
      let power : 2 ^ c.kind.bits ≤ 2 ^ 16 = pow_mono bits in
      let near = apart (smin c.kind) (smax c.kind) (smid c.kind) (local_sum q c z y x) (2 ^ c.kind.bits) (span c.kind cube.bits) middle
      (sum_within q c cube y x later wide z place) in
      let small = swapped (pos 4 *ℤ smid c.kind) (local_sum q c z y x) (2 ^ 18) (omega (arith, near, power)) in
      both_small (inner_product ws (difference_vector q c z y x)) (pos (2 ^ q.omega) *ℤ (local_sum q c z y x -ℤ pos 4 *ℤ smid c.kind)) (2 ^ (q.omega + 2))
      (limit_within q.omega most) products_small (raised_bound q.omega (local_sum q c z y x -ℤ pos 4 *ℤ smid c.kind) most small)

  pub sum_counted : unsigned_abs (inner_product ws (difference_vector q c z y x) +ℤ pos (2 ^ q.omega) *ℤ (local_sum q c z y x -ℤ pos 4 *ℤ smid c.kind))
      < greatest_sum q.omega c.kind.bits (component_count q z)
  sum_counted =
      let us : List ℤ = difference_vector q c z y x in let four : 2 ^ (c.kind.bits + 2) ≡ 2 ^ c.kind.bits * 2 ^ 2 = pow-add 2 c.kind.bits 2 in
      let vector : AllWithin (2 ^ (c.kind.bits + 2)) us = λ i l. let v = vector_within q c cube y x later wide z place i l in omega (arith, four, v) in
      let products = products_counted (2 ^ (q.omega + 2)) (2 ^ (c.kind.bits + 2)) ws us within vector in
      let near = apart (smin c.kind) (smax c.kind) (smid c.kind) (local_sum q c z y x) (2 ^ c.kind.bits) (span c.kind cube.bits)
      (middle_between c.kind.signed c.kind.bits cube.bits.0) (sum_within q c cube y x later wide z place) in
      let small = swapped (pos 4 *ℤ smid c.kind) (local_sum q c z y x) (2 ^ (c.kind.bits + 2)) (omega (arith, near, four)) in
      let added = product_within (2 ^ q.omega) (2 ^ (c.kind.bits + 2)) (pos (2 ^ q.omega)) (local_sum q c z y x -ℤ pos 4 *ℤ smid c.kind) (omega arith) small in
      let room = added_power q.omega c.kind.bits in
      counted (inner_product ws us) (pos (2 ^ q.omega) *ℤ (local_sum q c z y x -ℤ pos 4 *ℤ smid c.kind)) (component_count q z)
      (2 ^ (q.omega + c.kind.bits + 4)) (rw (sym (vector_length q c z y x), sym (raised_power q.omega c.kind.bits)) products)
      (lt_of_le_of_lt added room)

-- and by those of a cube
pub products_within : (p : Params) (c : Image) (z y x : ℕ) → IsLawful p → IsCube c → c.shape ≡ p.shape → IsPlace c.shape z y x → 0 < y + x
    → unsigned_abs (inner_product (weight_vector p c z (y * c.shape.columns + x)) (difference_vector (predictor_of p) c z y x))
    ≤ 18 * (2 ^ (p.omega + 2) * 2 ^ 18)
products_within p c z y x lawful cube shape place later =
    products_small (predictor_of p) c z y x (weight_vector p c z (y * c.shape.columns + x)) cube place later
    (wide_of p c lawful shape) lawful.previous lawful.omega.1 (weights_within p c z (y * c.shape.columns + x) lawful)

pub register_bound : RegisterBound
register_bound p c z y x lawful cube shape kind place later =
    register_small (predictor_of p) c z y x (weight_vector p c z (y * c.shape.columns + x)) cube place later
    (wide_of p c lawful shape) lawful.previous lawful.omega.1 (weights_within p c z (y * c.shape.columns + x) lawful)

pub counted_bound : CountedBound
counted_bound p c z y x lawful cube shape kind place later =
    subst (λ bits. unsigned_abs (register_sum p c z y x) < greatest_sum p.omega bits (component_count (predictor_of p) z)) (ap (λ (k : SampleKind). k.bits) kind)
    (sum_counted (predictor_of p) c z y x (weight_vector p c z (y * c.shape.columns + x)) cube place later
    (wide_of p c lawful shape) lawful.previous lawful.omega.1 (weights_within p c z (y * c.shape.columns + x) lawful))
