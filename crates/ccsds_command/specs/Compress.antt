-- What a cube's raw bytes are compressed to.
use Rattle.std.specs.Prelude.{◌≡◌, ◌≢◌, ◌⊎◌, ℕ, ◌+◌, ◌*◌, ◌≤◌, List, length, Option, Err}
use Rattle.cube_core.specs.declared.fault.Fault.{Fault}
use Rattle.cube_core.specs.declared.fault.Fault.TheVariants.{WantOfMemory, RawLength, Read}
use Rattle.cube_core.specs.Shape.{sample_count}
use Rattle.cube_core.specs.Image.{Image}
use Rattle.cube_core.specs.Layout.{raw_bytes, HaveBytes}
use Rattle.cube_core.specs.Raw.{IsBadSample}
use Rattle.header_bits.specs.Lawful.{IsLawful, params_fault}
use Rattle.coder_pipe.specs.File.{file_of}
use Rattle.coder_pipe.specs.Cubes.{IsCubeOf}
use Rattle.command_words.specs.declared.settings.CompressSettings.{CompressSettings}
use Rattle.command_devices.specs.Devices.{Took, Rose, IsFront, IsAll}
use Rattle.command_devices.specs.Writing.{IsCutShort}

-- how many raw bytes a cube of the settings has
abbrev pub raw_length : CompressSettings → ℕ
raw_length s = sample_count s.params.shape * s.layout.bytes

-- no more is read than the raw bytes and a byte
abbrev pub raw_limit : CompressSettings → ℕ
raw_limit s = raw_length s + 1

-- the source has the raw bytes of this cube, which is one of the parameters' shape and kind, and whose samples fit their bytes
abbrev pub HasCube : CompressSettings → Option (List ℕ) → Image → Type 0
HasCube s left c = IsCubeOf s.params c × HaveBytes c s.layout (sample_count c.shape) × IsAll left (raw_bytes c s.layout)

-- the source has the raw bytes of a cube, whose file this is
abbrev pub HasFile : CompressSettings → Option (List ℕ) → List ℕ → Type 0
HasFile s left file = (c : Image) × HasCube s left c × (file ≡ file_of c s.params)

-- the parameters are lawful, and the sink gained the file of the source's cube
unfoldable pub Compresses : CompressSettings → Option (List ℕ) → Option (List ℕ) → Option (List ℕ) → Type 0
Compresses s left old new = IsLawful s.params × (file : List ℕ) × HasFile s left file × Took old new file

-- bytes are no cube's: their number is wrong, or one of their samples isn't of the kind
abbrev pub IsBadRaw : CompressSettings → List ℕ → Fault → Type 0
IsBadRaw s bytes fault =
    ((fault ≡ RawLength (raw_length s) (length bytes)) × (length bytes ≢ raw_length s))
    ⊎ ((length bytes ≡ raw_length s) × IsBadSample s.params.kind s.layout bytes fault)

-- why the source has no cube: it failed, or memory did, or its bytes are no cube's, of which at most one too many is read
abbrev pub IsCubeRefusal : CompressSettings → Option (List ℕ) → ℕ → ℕ → Fault → Type 0
IsCubeRefusal s left failures failures_now fault =
    ((fault ≡ Read) × Rose failures failures_now) ⊎ ((fault ≡ WantOfMemory) ⊎ ((bytes : List ℕ) × IsFront (raw_limit s) left bytes
    × (length bytes ≤ raw_limit s) × IsBadRaw s bytes fault))

-- why a run is refused: the parameters aren't lawful, or the source has no cube, and nothing was written; or the sink cut the file short
unfoldable pub IsCompressFault : CompressSettings → Option (List ℕ) → ℕ → ℕ → Option (List ℕ) → Option (List ℕ) → ℕ → ℕ → ℕ → ℕ → Fault → Type 0
IsCompressFault s left read_failures read_failures_now old new failures failures_now stalls stalls_now fault =
    ((params_fault s.params ≡ Err fault) × (new ≡ old))
    ⊎ ((IsLawful s.params × IsCubeRefusal s left read_failures read_failures_now fault × (new ≡ old))
    ⊎ ((file : List ℕ) × IsLawful s.params × HasFile s left file × IsCutShort old new failures failures_now stalls stalls_now file fault))
