-- The weights at the next place, by the predicted difference.
use Rattle.std.proofs.Common.{◌≡◌, ℕ, ◌+◌, ◌*◌, ℤ, pos, ◌+ℤ◌, ◌-ℤ◌, ◌*ℤ◌, int_lt, int_le, List, refl, sym, ap, ◌∙◌}
use Rattle.cube_core.specs.Kind.{SampleKind, IsSample, smin, smid, smax}
use Rattle.cube_core.specs.Image.{Image, IsCube, IsPlace, sample_at}
use Rattle.sample_prediction.specs.Arithmetic.{floor_div}
use Rattle.sample_prediction.specs.Chain.{scaled_by_difference}
use Rattle.sample_prediction.specs.declared.predictor.Predictor.{Predictor}
use Rattle.sample_prediction.specs.LocalSum.{local_sum}
use Rattle.sample_prediction.specs.Differences.{central_difference, difference_vector}
use Rattle.sample_prediction.specs.Weights.{step_exponent, updated_weights}
use Rattle.sample_prediction.specs.Prediction.{scaled_there, next_weights}
use Rattle.sample_prediction.proofs.Floors.{sign_of_center, sign_of_part}
use Rattle.predict_core.proofs.Following.{next_is}
use Rattle.predict_core.proofs.Ranges.{sample_within}

-- an error's sign, where a scaled prediction comes from a difference
pub sign_by_difference : (k : SampleKind) (sum sample part scaled : ℤ) → IsSample k sample → scaled ≡ scaled_by_difference k part sum
    → int_lt (pos 2 *ℤ sample -ℤ scaled) (pos 0) ≡ int_le (pos 4 *ℤ sample -ℤ sum) part
sign_by_difference k sum sample part scaled h e =
    sign_of_center (smin k) (smax k) sample (floor_div (part +ℤ (sum -ℤ pos 4 *ℤ smid k)) 2 +ℤ pos 2 *ℤ smid k +ℤ pos 1) scaled h.0 h.1 e
    ∙ sign_of_part sample sum (smid k) part

module _ (q : Predictor) (c : Image) (z y x : ℕ) (ws : List ℤ) (cube : IsCube c) (place : IsPlace c.shape z y x) where
  sign : (part : ℤ) → scaled_there q c z y x ws ≡ scaled_by_difference c.kind part (local_sum q c z y x)
      → int_lt (pos 2 *ℤ sample_at c z y x -ℤ scaled_there q c z y x ws) (pos 0) ≡ int_le (central_difference q c z y x) part
  unfolding central_difference
  sign part e = sign_by_difference c.kind (local_sum q c z y x) (sample_at c z y x) part (scaled_there q c z y x ws) (sample_within c cube z y x place) e

  pub next_by_difference : (new : List ℤ) (own part : ℤ) → own ≡ central_difference q c z y x
      → scaled_there q c z y x ws ≡ scaled_by_difference c.kind part (local_sum q c z y x)
      → new ≡ updated_weights q.omega (step_exponent q c.shape.columns c.kind.bits (y * c.shape.columns + x)) (int_le own part) ws
      (difference_vector q c z y x)
      → new ≡ next_weights q c z (y * c.shape.columns + x) ws
  next_by_difference new own part a e h =
      next_is q c z (y * c.shape.columns + x) y x ws new (scaled_there q c z y x ws) (sample_at c z y x) refl place.column refl refl
      (h ∙ ap (λ t. updated_weights q.omega (step_exponent q c.shape.columns c.kind.bits (y * c.shape.columns + x)) t ws (difference_vector q c z y x))
      (rw a (sym (sign part e))))
