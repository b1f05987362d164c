-- The cube whose raw bytes a source has, and why it has none.
use Rattle.std.specs.Prelude.{◌≡◌, ◌≢◌, ◌⊎◌, ℕ, ◌+◌, ◌*◌, ◌<◌, ◌≤◌, List, length, Option}
use Rattle.cube_core.specs.declared.fault.Fault.{Fault}
use Rattle.cube_core.specs.declared.fault.Fault.TheVariants.{RawLength, Read, WantOfMemory}
use Rattle.cube_core.specs.declared.layout.Layout.{Layout}
use Rattle.cube_core.specs.declared.part.Part.{Part}
use Rattle.cube_core.specs.Image.{Image, IsCube}
use Rattle.cube_core.specs.Kind.{SampleKind}
use Rattle.cube_core.specs.Layout.{raw_bytes, HaveBytes}
use Rattle.cube_core.specs.Parts.{first_sample, part_samples}
use Rattle.cube_core.specs.Raw.{IsBadSample}
use Rattle.cube_core.specs.Shape.{Sizes, sample_count}
use Rattle.command_devices.specs.Devices.{Gave, IsAll, IsEnd, IsFront, Rose}

-- how many raw bytes a cube of these sizes has
abbrev pub length_in : Sizes → Layout → ℕ
length_in s l = sample_count s * l.bytes

-- no more is read than the raw bytes and a byte
abbrev pub most_read : Sizes → Layout → ℕ
most_read s l = length_in s l + 1

-- the source has the raw bytes of this cube, which is one of this shape and kind, and whose samples fit their bytes
pub record HasRawCube (s : Sizes) (k : SampleKind) (l : Layout) (left : Option (List ℕ)) (c : Image) : Type 0 where
  pub cube : IsCube c
  pub shape : c.shape ≡ s
  pub kind : c.kind ≡ k
  pub fits : HaveBytes c l (sample_count c.shape)
  pub all : IsAll left (raw_bytes c l)

-- bytes are no cube's: their number is wrong, or one of their samples isn't of the kind
abbrev pub AreNoCube : Sizes → SampleKind → Layout → List ℕ → Fault → Type 0
AreNoCube s k l bytes fault =
    ((fault ≡ RawLength (length_in s l) (length bytes)) × (length bytes ≢ length_in s l)) ⊎ ((length bytes ≡ length_in s l) × IsBadSample k l bytes fault)

-- why the source has no cube: it failed, or memory did, or its bytes are no cube's, of which at most one too many is read
abbrev pub IsRawRefusal : Sizes → SampleKind → Layout → Option (List ℕ) → ℕ → ℕ → Fault → Type 0
IsRawRefusal s k l left failures failures_now fault =
    ((fault ≡ Read) × Rose failures failures_now) ⊎ ((fault ≡ WantOfMemory) ⊎ ((bytes : List ℕ) × IsFront (most_read s l) left bytes
    × (length bytes ≤ most_read s l) × AreNoCube s k l bytes fault))

-- why a part isn't read: the source failed, or ended within it; the fault says how many bytes there were with those before the part
abbrev pub IsPartRefusal : Sizes → Layout → Part → Option (List ℕ) → Option (List ℕ) → ℕ → ℕ → Fault → Type 0
IsPartRefusal s l part left now failures failures_now fault =
    ((fault ≡ Read) × Rose failures failures_now)
    ⊎ ((bytes : List ℕ) × Gave left now bytes × IsEnd now × (length bytes < part_samples l s part * l.bytes) × (failures_now ≡ failures)
    × (fault ≡ RawLength (length_in s l) (first_sample l s part * l.bytes + length bytes)))

-- why a source isn't at its end: it failed, or a byte more than wanted came
abbrev pub IsEndRefusal : Sizes → Layout → Option (List ℕ) → Option (List ℕ) → ℕ → ℕ → Fault → Type 0
IsEndRefusal s l left now failures failures_now fault =
    ((fault ≡ Read) × Rose failures failures_now)
    ⊎ ((bytes : List ℕ) × Gave left now bytes × (length bytes ≡ 1) × (failures_now ≡ failures) × (fault ≡ RawLength (length_in s l) (most_read s l)))
