-- A prediction reads only samples at places that come before its own, in each encoding order.
use Rattle.std.specs.Prelude.{ℕ, ◌≡◌, ◌+◌, ◌*◌, ◌<◌, ◌≤◌, ◌⊎◌, false}
use Rattle.header_bits.specs.declared.params.Params.{Params}
use Rattle.cube_core.specs.declared.order.Order.{Order}
use Rattle.cube_core.specs.declared.order.Place.{Place}
use Rattle.cube_core.specs.Image.{Image, IsPlace, sample_at}
use Rattle.cube_core.specs.Order.{IsPlaceOf, place_index, place_key, IsBefore}
use Rattle.sample_prediction.specs.Predictor.{predictor_of}
use Rattle.sample_prediction.specs.LocalSum.{local_sum}
use Rattle.sample_prediction.specs.Differences.{difference_vector}
use Rattle.sample_prediction.specs.Prediction.{weight_vector, scaled_prediction}

-- two images have the same shape and kind
pub record AreAlike (c d : Image) : Type 0 where
  pub shape : c.shape ≡ d.shape
  pub kind : c.kind ≡ d.kind

-- raster index t' of band z' is before t in band z, or at most t in an earlier band
abbrev pub IsEarlier : ℕ → ℕ → ℕ → ℕ → Type 0
IsEarlier z t z' t' = ((z' < z) × (t' ≤ t)) ⊎ ((z' ≡ z) × (t' < t))

-- two images have equal samples at the first t places of band z, and at the first u places of each earlier band
pub record Agree (c d : Image) (z t u : ℕ) : Type 0 where
  pub alike : AreAlike c d
  pub own : (y x : ℕ) → IsPlace c.shape z y x → y * c.shape.columns + x < t → sample_at c z y x ≡ sample_at d z y x
  pub under : (z' y x : ℕ) → IsPlace c.shape z' y x → z' < z → y * c.shape.columns + x < u → sample_at c z' y x ≡ sample_at d z' y x

-- two images have equal samples at all places before `place` in an encoding order
abbrev pub AgreeBefore : Order → Image → Image → Place → Type 0
AgreeBefore order c d place =
    (earlier : Place) → IsPlace c.shape earlier.z earlier.y earlier.x → IsBefore (place_key order earlier) (place_key order place)
    → sample_at c earlier.z earlier.y earlier.x ≡ sample_at d earlier.z earlier.y earlier.x

-- two images have equal samples at the first i places of an encoding order
abbrev pub SameBefore : Order → Image → Image → ℕ → Type 0
SameBefore order c d i = (r : Place) → IsPlaceOf c.shape r → place_index c.shape order r < i → sample_at c r.z r.y r.x ≡ sample_at d r.z r.y r.x

-- σ, U and W at raster index t of band z, and s̃ there, are the same for two images
pub record PredictAlike (p : Params) (c d : Image) (z y x t : ℕ) : Type 0 where
  pub sum : 0 < t → local_sum (predictor_of p) c z y x ≡ local_sum (predictor_of p) d z y x
  pub differences : 0 < t → difference_vector (predictor_of p) c z y x ≡ difference_vector (predictor_of p) d z y x
  pub weights : weight_vector p c z t ≡ weight_vector p d z t
  pub scaled : scaled_prediction p c z t ≡ scaled_prediction p d z t

-- The prediction at a place depends only on the samples before it, in each encoding order.
abbrev pub PlacesPrecede : Type 0
PlacesPrecede =
    (p : Params) (order : Order) (c d : Image) (place : Place) → (p.column ≡ false → 2 ≤ c.shape.columns) → AreAlike c d
    → IsPlace c.shape place.z place.y place.x → AgreeBefore order c d place
    → PredictAlike p c d place.z place.y place.x (place.y * c.shape.columns + place.x)
