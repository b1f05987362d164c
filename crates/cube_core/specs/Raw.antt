-- What reading and writing raw bytes gives, and what is refused.
use Rattle.std.specs.Prelude.{ℕ, ◌≡◌, ◌⊎◌, ◌*◌, ◌<◌, List, length, take, Result, IfOk, IfErr}
use Rattle.cube_core.specs.declared.fault.Fault.{Fault}
use Rattle.cube_core.specs.declared.fault.Fault.TheVariants.{RawLength, WantOfMemory, SampleRange}
use Rattle.cube_core.specs.declared.layout.Layout.{Layout}
use Rattle.cube_core.specs.Shape.{Sizes, sample_count}
use Rattle.cube_core.specs.Kind.{SampleKind, IsSample}
use Rattle.cube_core.specs.Image.{Image, IsCube}
use Rattle.cube_core.specs.Layout.{raw_bytes, raw_value, bytes_at, HaveBytes, IsFirstBad, IsFirstUnfit}

-- the first i samples are of the kind
abbrev pub AreSamples : SampleKind → Layout → List ℕ → ℕ → Type 0
AreSamples k l bytes i = (j : ℕ) → j < i → IsSample k (raw_value l k (bytes_at l bytes j))

-- the refusal names the first sample that is not of the kind
abbrev pub IsBadSample : SampleKind → Layout → List ℕ → Fault → Type 0
IsBadSample k l bytes fault = (i : ℕ) × (fault ≡ SampleRange i) × IsFirstBad k l bytes i

-- what was found once the raw bytes of n samples have come: a cube whose raw bytes begin with these, or the first sample that isn't of the kind
pub record IsFound (s : Sizes) (k : SampleKind) (l : Layout) (bytes : List ℕ) (n : ℕ) (found : Result Image Fault) : Type 0 where
  pub long : length bytes ≡ n * l.bytes
  pub cube : IfOk found (λ c. IsCube c × (c.shape ≡ s) × (c.kind ≡ k) × (take (n * l.bytes) (raw_bytes c l) ≡ bytes) × HaveBytes c l n × AreSamples k l bytes n)
  pub bad : IfErr found (IsBadSample k l bytes)

-- the faults with which raw bytes are refused: `RawLength` with the two lengths, `WantOfMemory`, or the first sample that isn't of the kind
abbrev pub IsRawFault : Sizes → SampleKind → Layout → List ℕ → Fault → Type 0
IsRawFault s k l bytes fault =
    (fault ≡ RawLength (sample_count s * l.bytes) (length bytes)) ⊎ ((fault ≡ WantOfMemory) ⊎ IsBadSample k l bytes fault)

-- the faults with which writing is refused: `WantOfMemory`, or the first sample that doesn't fit in its bytes
abbrev pub IsUnfit : Image → Layout → Fault → Type 0
IsUnfit c l fault = (fault ≡ WantOfMemory) ⊎ ((i : ℕ) × (fault ≡ SampleRange i) × IsFirstUnfit c l i)
