-- Pieces of a row of samples.
use Rattle.std.specs.Prelude.{ℕ, ℤ, List, slice_index}
use Rattle.cube_core.specs.declared.order.Place.{Place}
use Rattle.cube_core.specs.declared.layout.Layout.{Layout}
use Rattle.cube_core.specs.Shape.{Sizes}
use Rattle.cube_core.specs.Kind.{SampleKind, sample_of}
use Rattle.cube_core.specs.Image.{index_in}
use Rattle.cube_core.specs.Order.{IsPlaceOf}
use Rattle.cube_core.specs.Layout.{HasBytes}

-- the sample at a place, by the offsets of all samples
abbrev pub sample_by : Sizes → SampleKind → List ℕ → Place → ℤ
sample_by s k offsets p = sample_of k (slice_index offsets (index_in s.columns s.rows p.z p.y p.x))

-- each sample fits in its bytes
abbrev pub CanBeWritten : Sizes → SampleKind → Layout → List ℕ → Type 0
CanBeWritten s k l offsets = (p : Place) → IsPlaceOf s p → HasBytes k l (sample_by s k offsets p)
