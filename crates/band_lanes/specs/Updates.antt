-- The update of a weight, in one lane.
use Rattle.std.specs.Prelude.{ℕ, ◌/◌, ℤ, neg_ℤ, int_le, List}
use Rattle.lanes.specs.Lanes.{lane}
use Rattle.sample_prediction.specs.Weights.{step, signed_by, updated_weight}

-- the opposite of the step of lane k of a row of pairs, with own and predicted central differences that have a lane a band
abbrev pub opposite_step : ℤ → List ℤ → List ℤ → List ℤ → ℕ → ℤ
opposite_step exponent own predicted components k = neg_ℤ (step exponent (signed_by (int_le (lane own (k / 2)) (lane predicted (k / 2))) (lane components k)))

-- lane k of a row of pairs of weights after its update
abbrev pub updated_lane : ℕ → ℤ → List ℤ → List ℤ → List ℤ → List ℤ → ℕ → ℤ
updated_lane omega exponent own predicted weights components k =
    updated_weight omega exponent (int_le (lane own (k / 2)) (lane predicted (k / 2))) (lane weights k) (lane components k)
