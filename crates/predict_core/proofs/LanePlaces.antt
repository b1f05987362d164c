-- One place of a band's chain, by weights and components in lanes, which have zeros after those that are used.
use Rattle.std.proofs.Common.{◌≡◌, ℕ, ◌+◌, ◌-◌, ◌*◌, ◌^◌, ◌<◌, ◌≤◌, ℤ, pos, ◌+ℤ◌, ◌-ℤ◌, ◌*ℤ◌, ◌≤ℤ◌, int_le, Bool, List, [], ◌∷◌, false, ◌++◌, length, take, replicate, refl, sym, ap, ap₂, ◌∙◌, arith, pow_mono, lt_of_lt_of_le, length-append, inl, inr, zero, suc, unsigned_abs}
use Rattle.std.proofs.lemmas.Int.{ints, clamps}
use Rattle.std.proofs.lemmas.List.{take_all, length-replicate}
use Rattle.cube_core.specs.Kind.{SampleKind, IsKind, smin, smid, smax}
use Rattle.cube_core.specs.Image.{Image, IsCube, IsPlace}
use Rattle.lanes.specs.Lanes.{held}
use Rattle.predict_core.specs.declared.settings.Settings.{Settings}
use Rattle.predict_core.specs.Largest.{NeverWraps}
use Rattle.predict_core.specs.BandLanes.{IsPart, IsNarrow, FitsNarrow}
use Rattle.sample_prediction.specs.Arithmetic.{floor_div, clip, wrapped}
use Rattle.sample_prediction.specs.Bounds.{AllWithin}
use Rattle.sample_prediction.specs.Chain.{scaled_by_difference}
use Rattle.sample_prediction.specs.Differences.{central_difference, difference_vector}
use Rattle.sample_prediction.specs.LocalSum.{local_sum}
use Rattle.sample_prediction.specs.Mapping.{Between}
use Rattle.sample_prediction.specs.Prediction.{inner_product, scaled_there, next_weights}
use Rattle.sample_prediction.specs.Weights.{step_exponent, updated_weights, growth, updated_weight, weight_min, weight_max}
use Rattle.sample_prediction.proofs.Floors.{kept, floor_low, floor_high}
use Rattle.sample_prediction.proofs.Inner.{within_take}
use Rattle.sample_prediction.proofs.Padding.{vector_length}
use Rattle.sample_prediction.proofs.Predicted.{of_product}
use Rattle.sample_prediction.proofs.Prefixes.{product_in_use, update_in_use}
use Rattle.sample_prediction.proofs.Spans.{span}
use Rattle.predict_core.proofs.Largest.{sum_counted}
use Rattle.predict_core.proofs.Links.{next_by_difference}
use Rattle.predict_core.proofs.Ranges.{sum_within}
use Rattle.std.proofs.lemmas.Nat.{pow_pos}
use Rattle.sample_prediction.specs.declared.predictor.Predictor.{Predictor}

-- ---- the part of the products, held in 16 bits

-- it leads to the same scaled prediction
held_as_well : (low high middle sum part half held_half : ℤ) (power : ℕ) → power ≤ 8192 → high -ℤ low ≡ pos power -ℤ pos 1
    → (pos 2 *ℤ half) ≤ℤ (part +ℤ (sum -ℤ pos 4 *ℤ middle)) → (part +ℤ (sum -ℤ pos 4 *ℤ middle)) ≤ℤ (pos 2 *ℤ half +ℤ pos 1)
    → (pos 2 *ℤ held_half) ≤ℤ (held part +ℤ (sum -ℤ pos 4 *ℤ middle)) → (held part +ℤ (sum -ℤ pos 4 *ℤ middle)) ≤ℤ (pos 2 *ℤ held_half +ℤ pos 1)
    → (pos 4 *ℤ low) ≤ℤ sum → sum ≤ℤ (pos 4 *ℤ high)
    → clip (held_half +ℤ pos 2 *ℤ middle +ℤ pos 1) (pos 2 *ℤ low) (pos 2 *ℤ high +ℤ pos 1)
    ≡ clip (half +ℤ pos 2 *ℤ middle +ℤ pos 1) (pos 2 *ℤ low) (pos 2 *ℤ high +ℤ pos 1)
held_as_well low high middle sum part half held_half power p w a b d e f g = omega (arith, ints, clamps, p, w, a, b, d, e, f, g)

-- what 16 bits hold of a part leads to the same scaled prediction
held_scaled : (k : SampleKind) (sum part : ℤ) → IsKind k → k.bits ≤ 13 → Between (pos 4 *ℤ smin k) (pos 4 *ℤ smax k) sum
    → scaled_by_difference k (held part) sum ≡ scaled_by_difference k part sum
held_scaled k sum part is few h =
    let power : 2 ^ k.bits ≤ 2 ^ 13 = pow_mono few in
    let a = floor_low (part +ℤ (sum -ℤ pos 4 *ℤ smid k)) 2 (omega arith) in let b = floor_high (part +ℤ (sum -ℤ pos 4 *ℤ smid k)) 2 (omega arith) in
    let d = floor_low (held part +ℤ (sum -ℤ pos 4 *ℤ smid k)) 2 (omega arith) in let e = floor_high (held part +ℤ (sum -ℤ pos 4 *ℤ smid k)) 2 (omega arith) in
    held_as_well (smin k) (smax k) (smid k) sum part (floor_div (part +ℤ (sum -ℤ pos 4 *ℤ smid k)) 2) (floor_div (held part +ℤ (sum -ℤ pos 4 *ℤ smid k)) 2)
    (2 ^ k.bits) power (span k is) a (omega (arith, ints, b)) d (omega (arith, ints, e)) h.0 h.1

-- an update makes no list longer
pub updated_short : (f : ℕ) (e : ℤ) (n : Bool) (ws us : List ℤ) → length (updated_weights f e n ws us) ≤ length ws
unfolding updated_weights
updated_short f e n [] us = omega arith
updated_short f e n (w ∷ ws) [] = omega arith
updated_short f e n (w ∷ ws) (u ∷ us) = let r = updated_short f e n ws us in omega (arith, r)

in_range : (f : ℕ) (a : ℤ) → unsigned_abs (clip a (weight_min f) (weight_max f)) ≤ 2 ^ (f + 2)
in_range f a = let p = pow_pos (f + 2) in omega (arith, ints, clamps, p)

pub updated_within : (f : ℕ) (e : ℤ) (n : Bool) (ws us : List ℤ) → AllWithin (2 ^ (f + 2)) (updated_weights f e n ws us)
unfolding updated_weights updated_weight
updated_within f e n [] us i l = absurd (omega (arith, l))
updated_within f e n (w ∷ ws) [] i l = absurd (omega (arith, l))
updated_within f e n (w ∷ ws) (u ∷ us) zero l = in_range f _
updated_within f e n (w ∷ ws) (u ∷ us) (suc i) l = updated_within f e n ws us i (omega (arith, l))

-- ---- the exponents of steps

-- the exponents of steps that lanes of 16 bits take
pub exponent_least : (p : Predictor) (columns bits t : ℕ) → p.vmin ≤ℤ p.vmax → IsNarrow p bits → (pos bits -ℤ pos 14) ≤ℤ step_exponent p columns bits t
unfolding step_exponent growth
exponent_least p columns bits t o h = let l = h.least in omega (arith, ints, clamps, l, o)

pub exponent_most : (p : Predictor) (columns bits t : ℕ) → p.vmin ≤ℤ p.vmax → IsNarrow p bits → step_exponent p columns bits t ≤ℤ pos 13
unfolding step_exponent growth
exponent_most p columns bits t o h = let m = h.most in omega (arith, ints, clamps, m, o)

-- the same for samples of up to 13 bits
pub exponent_fits_least : (p : Predictor) (columns bits t : ℕ) → p.vmin ≤ℤ p.vmax → FitsNarrow p bits → (pos bits -ℤ pos 14) ≤ℤ step_exponent p columns bits t
unfolding step_exponent growth
exponent_fits_least p columns bits t o h = let l = h.least in omega (arith, ints, clamps, l, o)

pub exponent_fits_most : (p : Predictor) (columns bits t : ℕ) → p.vmin ≤ℤ p.vmax → FitsNarrow p bits → step_exponent p columns bits t ≤ℤ pos 13
unfolding step_exponent growth
exponent_fits_most p columns bits t o h = let m = h.most in omega (arith, ints, clamps, m, o)

-- ---- one place

module _ (q : ℕ) (s : Settings) (c : Image) (y x : ℕ) (cube : IsCube c) (at : IsPlace c.shape s.band y x) (later : 0 < y + x)
    (columns : c.shape.columns ≡ s.columns) (enough : s.count ≤ 2 * q) (register : NeverWraps s.predictor c.kind.bits s.count) (components : List ℤ)
    (vector : components ≡ difference_vector s.predictor c s.band y x ++ replicate (2 * q - s.count) (pos 0)) (ws : List ℤ) (long : length ws ≡ 2 * q)
    (within : AllWithin (2 ^ (s.predictor.omega + 2)) ws) (part : ℤ)
    (found : IsPart c.kind.bits (floor_div (inner_product ws components) (2 ^ s.predictor.omega)) part) where
  wide : s.predictor.column ≡ false → 2 ≤ c.shape.columns
  wide = rw columns s.wide

  abbrev us : List ℤ
  us = difference_vector s.predictor c s.band y x

  abbrev sum : ℤ
  sum = local_sum s.predictor c s.band y x

  us_long : length us ≡ s.count
  us_long = vector_length s.predictor c s.band y x ∙ sym s.count_is

  abbrev rest : ℕ
  rest = 2 * q - s.count

  all_long : length (us ++ replicate rest (pos 0)) ≤ 2 * q
  all_long =
      let e = length-append us (replicate rest (pos 0)) in let f = length-replicate rest (pos 0) in let g = us_long in let h = enough in
      omega (arith, e, f, g, h)

  product : inner_product ws components ≡ inner_product (take s.count ws) us
  product =
      product_in_use ws us s.count (2 * q) rest (inner_product ws components) us_long enough (omega (arith, enough))
      (ap₂ inner_product (sym (take_all (2 * q) ws (omega (arith, long)))) (vector ∙ sym (take_all (2 * q) (us ++ replicate rest (pos 0)) all_long)))

  sum_between : Between (pos 4 *ℤ smin c.kind) (pos 4 *ℤ smax c.kind) sum
  sum_between = sum_within s.predictor c cube y x later wide s.band at

  unwrapped : wrapped s.predictor.register (inner_product (take s.count ws) us +ℤ pos (2 ^ s.predictor.omega) *ℤ (sum -ℤ pos 4 *ℤ smid c.kind))
      ≡ inner_product (take s.count ws) us +ℤ pos (2 ^ s.predictor.omega) *ℤ (sum -ℤ pos 4 *ℤ smid c.kind)
  unwrapped =
      let small = sum_counted s.predictor c s.band y x (take s.count ws) cube at later wide s.lawful.few s.lawful.omega.1
      (within_take (2 ^ (s.predictor.omega + 2)) s.count ws within) in
      kept s.predictor.register _ (let some = s.lawful.register.0 in omega (arith, some)) (lt_of_lt_of_le small (rw (← s.count_is) register))

  abbrev exact : ℤ
  exact = floor_div (inner_product ws components) (2 ^ s.predictor.omega)

  -- a predicted central difference is as good as the exact one
  as_exact : scaled_by_difference c.kind part sum ≡ scaled_by_difference c.kind exact sum
  as_exact = elim found [
    | inl same ↦ ap (λ v. scaled_by_difference c.kind v sum) same
    | inr short ↦ ap (λ v. scaled_by_difference c.kind v sum) short.1 ∙ held_scaled c.kind sum exact cube.bits short.0 sum_between
  ]

  -- the scaled prediction comes from it
  pub place_scaled : scaled_there s.predictor c s.band y x (take s.count ws) ≡ scaled_by_difference c.kind part sum
  unfolding scaled_there
  place_scaled =
      of_product s.predictor c.kind sum (floor_div (inner_product (take s.count ws) us) (2 ^ s.predictor.omega)) (take s.count ws) us unwrapped refl
      ∙ ap (λ v. scaled_by_difference c.kind (floor_div v (2 ^ s.predictor.omega)) sum) (sym product) ∙ sym as_exact

  -- and so do the next weights
  pub place_next : (new : List ℤ) (omega : ℕ) (exponent own : ℤ) → omega ≡ s.predictor.omega
      → exponent ≡ step_exponent s.predictor c.shape.columns c.kind.bits (y * c.shape.columns + x)
      → own ≡ central_difference s.predictor c s.band y x
      → new ≡ updated_weights omega exponent (int_le own part) ws components
      → take s.count new ≡ next_weights s.predictor c s.band (y * c.shape.columns + x) (take s.count ws)
  place_next new fraction exponent own same e own_is h =
      next_by_difference s.predictor c s.band y x (take s.count ws) cube at (take s.count new) own part own_is place_scaled
      (update_in_use s.predictor.omega exponent (int_le own part) ws us new s.count (2 * q) rest us_long enough (omega (arith, enough))
      (ap (take (2 * q)) (h ∙ ap₂ (λ f u. updated_weights f exponent (int_le own part) ws u) same vector)
      ∙ take_all (2 * q) (updated_weights s.predictor.omega exponent (int_le own part) ws (us ++ replicate rest (pos 0)))
      (let l = updated_short s.predictor.omega exponent (int_le own part) ws (us ++ replicate rest (pos 0)) in omega (arith, l, long))
      ∙ ap₂ (updated_weights s.predictor.omega exponent (int_le own part)) (sym (take_all (2 * q) ws (omega (arith, long))))
      (sym (take_all (2 * q) (us ++ replicate rest (pos 0)) all_long)))
      ∙ ap (λ e. updated_weights s.predictor.omega e (int_le own part) (take s.count ws) us) e)
