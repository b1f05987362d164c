-- The sign of an error by the predicted difference.
use Rattle.std.proofs.Common.{◌≡◌, ℕ, zero, suc, ◌+◌, ◌-◌, ◌*◌, ◌^◌, ◌<◌, ◌≤◌, ℤ, pos, ◌+ℤ◌, ◌-ℤ◌, ◌*ℤ◌, int_lt, int_le, unsigned_abs, List, arith, refl, ap}
use Rattle.std.proofs.Common.{◌∙◌, pow_pos}
use Rattle.std.proofs.Math.Pow.{pow-add}
use Rattle.cube_core.specs.Kind.{SampleKind, IsSample, smin, smid, smax}
use Rattle.cube_core.specs.Image.{Image, sample_at}
use Rattle.header_bits.specs.declared.params.Params.{Params}
use Rattle.sample_prediction.specs.Arithmetic.{floor_div, clip}
use Rattle.sample_prediction.specs.declared.predictor.Predictor.{Predictor}
use Rattle.sample_prediction.specs.Predictor.{predictor_of}
use Rattle.sample_prediction.specs.LocalSum.{local_sum}
use Rattle.sample_prediction.specs.Differences.{central_difference, difference_vector}
use Rattle.sample_prediction.specs.Prediction.{inner_product, scaled_by, scaled_there, weight_vector, scaled_prediction}
use Rattle.sample_prediction.specs.ErrorSign.{IsLaterPlace, UnwrappedPrediction, ErrorSign, DifferenceBound}
use Rattle.sample_prediction.proofs.Floors.{kept, upper_part, sign_of_center, sign_of_part, floor_within, below_power}
use Rattle.predict_core.proofs.Following.{row_is, column_is}
use Rattle.predict_core.proofs.Largest.{register_bound, products_within}
use Rattle.predict_core.proofs.Ranges.{sample_within}
use Rattle.predict_core.proofs.Runs.{later_place}

-- the scaled prediction where the register holds all of the sum
pub unwrapped_by : (p : Predictor) (k : SampleKind) (sum : ℤ) (ws us : List ℤ) → 46 ≤ p.register
    → unsigned_abs (inner_product ws us +ℤ pos (2 ^ p.omega) *ℤ (sum -ℤ pos 4 *ℤ smid k)) < 2 ^ 45
    → scaled_by p k sum ws us
    ≡ clip (floor_div (floor_div (inner_product ws us) (2 ^ p.omega) +ℤ (sum -ℤ pos 4 *ℤ smid k)) 2 +ℤ pos 2 *ℤ smid k +ℤ pos 1) (pos 2 *ℤ smin k)
    (pos 2 *ℤ smax k +ℤ pos 1)
unfolding scaled_by
unwrapped_by p k sum ws us wide small =
    let e = kept p.register (inner_product ws us +ℤ pos (2 ^ p.omega) *ℤ (sum -ℤ pos 4 *ℤ smid k)) (omega arith)
    (below_power 45 (p.register - 1) (inner_product ws us +ℤ pos (2 ^ p.omega) *ℤ (sum -ℤ pos 4 *ℤ smid k)) (omega arith) small) in
    rw (e, upper_part p.omega (inner_product ws us) (sum -ℤ pos 4 *ℤ smid k)) refl

-- and the sign of its error
pub sign_by : (p : Predictor) (k : SampleKind) (sum sample : ℤ) (ws us : List ℤ) → 46 ≤ p.register
    → unsigned_abs (inner_product ws us +ℤ pos (2 ^ p.omega) *ℤ (sum -ℤ pos 4 *ℤ smid k)) < 2 ^ 45 → IsSample k sample
    → int_lt (pos 2 *ℤ sample -ℤ scaled_by p k sum ws us) (pos 0) ≡ int_le (pos 4 *ℤ sample -ℤ sum) (floor_div (inner_product ws us) (2 ^ p.omega))
sign_by p k sum sample ws us wide small h =
    sign_of_center (smin k) (smax k) sample (floor_div (floor_div (inner_product ws us) (2 ^ p.omega) +ℤ (sum -ℤ pos 4 *ℤ smid k)) 2 +ℤ pos 2 *ℤ smid k
    +ℤ pos 1) (scaled_by p k sum ws us) h.0 h.1 (unwrapped_by p k sum ws us wide small)
    ∙ sign_of_part sample sum (smid k) (floor_div (inner_product ws us) (2 ^ p.omega))

scaled_at : (p : Params) (c : Image) (z t y x : ℕ) → 0 < t → t ≡ y * c.shape.columns + x → x < c.shape.columns
    → scaled_prediction p c z t ≡ scaled_by (predictor_of p) c.kind (local_sum (predictor_of p) c z y x) (weight_vector p c z t)
    (difference_vector (predictor_of p) c z y x)
unfolding scaled_prediction scaled_there
scaled_at p c z zero y x l e h = absurd (omega arith)
scaled_at p c z (suc t) y x l e h = rw (row_is c.shape.columns (suc t) y x e h, column_is c.shape.columns (suc t) y x e h) refl

module _ (p : Params) (c : Image) (z y x : ℕ) (h : IsLaterPlace p c z y x) where
  there : scaled_prediction p c z (y * c.shape.columns + x) ≡ scaled_by (predictor_of p) c.kind (local_sum (predictor_of p) c z y x)
      (weight_vector p c z (y * c.shape.columns + x)) (difference_vector (predictor_of p) c z y x)
  there = scaled_at p c z (y * c.shape.columns + x) y x (later_place c.shape.columns y x h.later h.place.column) refl h.place.column

  small : unsigned_abs (inner_product (weight_vector p c z (y * c.shape.columns + x)) (difference_vector (predictor_of p) c z y x)
      +ℤ pos (2 ^ p.omega) *ℤ (local_sum (predictor_of p) c z y x -ℤ pos 4 *ℤ smid c.kind)) < 2 ^ 45
  small = register_bound p c z y x h.lawful h.cube h.shape h.kind h.place h.later

pub unwrapped_prediction : UnwrappedPrediction
unwrapped_prediction p c z y x h wide =
    there p c z y x h
    ∙ unwrapped_by (predictor_of p) c.kind (local_sum (predictor_of p) c z y x)
    (weight_vector p c z (y * c.shape.columns + x)) (difference_vector (predictor_of p) c z y x) wide (small p c z y x h)

pub error_sign : ErrorSign
unfolding central_difference
error_sign p c z y x h wide =
    ap (λ v. int_lt (pos 2 *ℤ sample_at c z y x -ℤ v) (pos 0)) (there p c z y x h)
    ∙ sign_by (predictor_of p) c.kind (local_sum (predictor_of p) c z y x) (sample_at c z y x) (weight_vector p c z (y * c.shape.columns + x))
    (difference_vector (predictor_of p) c z y x) wide (small p c z y x h) (sample_within c h.cube z y x h.place)

pub difference_bound : DifferenceBound
difference_bound p c z y x h =
    let e : 2 ^ (p.omega + 2) ≡ 2 ^ p.omega * 2 ^ 2 = pow-add 2 p.omega 2 in
    floor_within (inner_product (weight_vector p c z (y * c.shape.columns + x)) (difference_vector (predictor_of p) c z y x))
    (18 * 2 ^ 20) (2 ^ p.omega) (pow_pos p.omega)
    (omega (arith, e, products_within p c z y x h.lawful h.cube h.shape h.place h.later))
