-- The synthetic cube, and how high the samples of a cube are.
use Rattle.std.specs.Prelude.{ℕ, ◌+◌, ◌*◌, ◌%◌, ◌^◌, ℤ, ◌-ℤ◌, unsigned_abs, List, map}
use Rattle.cube_core.specs.declared.order.Place.{Place}
use Rattle.cube_core.specs.declared.order.Order.TheVariants.{Bsq}
use Rattle.cube_core.specs.Shape.{Sizes}
use Rattle.cube_core.specs.Kind.{SampleKind, smin, sample_of}
use Rattle.cube_core.specs.Image.{Image}
use Rattle.cube_core.specs.Order.{place_index, places}
use Rattle.speed.specs.Numbers.{state_after, highest}

-- slopes along bands, rows and columns, and six bits of noise, which is drawn band after band
abbrev pub synthetic_offset : Sizes → SampleKind → Place → ℕ
synthetic_offset s k p = (16 * p.z + 4 * p.y + 2 * p.x + highest 6 (state_after (place_index s Bsq p + 1))) % 2 ^ k.bits

unfoldable pub synthetic_samples : Sizes → SampleKind → List ℤ
synthetic_samples s k = map (λ p. sample_of k (synthetic_offset s k p)) (places s Bsq)

-- a cube that changes slowly, with some noise
abbrev pub synthetic_image : Sizes → SampleKind → Image
synthetic_image s k = record { shape = s; kind = k; samples = synthetic_samples s k }

-- how far each sample stands above the least one
abbrev pub offsets_of : Image → List ℕ
offsets_of c = map (λ v. unsigned_abs (v -ℤ smin c.kind)) c.samples
