-- What a file is expanded to.
use Rattle.std.specs.Prelude.{◌≡◌, ◌⊎◌, ℕ, ◌^◌, ◌≤◌, List, length, Option, Err}
use Rattle.cube_core.specs.declared.fault.Fault.{Fault}
use Rattle.cube_core.specs.declared.layout.Layout.{Layout}
use Rattle.cube_core.specs.Image.{Image}
use Rattle.cube_core.specs.Shape.{sample_count}
use Rattle.cube_core.specs.Layout.{raw_bytes, HaveBytes}
use Rattle.cube_core.specs.Raw.{IsUnfit}
use Rattle.header_bits.specs.declared.params.Params.{Params}
use Rattle.header_bits.specs.Bits.{bits_of_bytes}
use Rattle.coder_pipe.specs.Files.{IsFile, file_test}
use Rattle.command_devices.specs.Devices.{Took, IsAll}
use Rattle.command_devices.specs.Reading.{IsReadRefusal}
use Rattle.command_devices.specs.Writing.{IsCutShort}

-- the source has a file of this cube, of at most 2^40 bytes
abbrev pub HasFileOf : Option (List ℕ) → Image → Type 0
HasFileOf left c = (bytes : List ℕ) × (p : Params) × IsAll left bytes × (length bytes ≤ 2 ^ 40) × IsFile bytes p c

-- the source has a file of a cube whose samples fit their bytes, and these are its raw bytes
abbrev pub HasRaw : Layout → Option (List ℕ) → List ℕ → Type 0
HasRaw l left raw = (c : Image) × HasFileOf left c × HaveBytes c l (sample_count c.shape) × (raw ≡ raw_bytes c l)

-- the sink gained the raw bytes of the cube whose file the source has
unfoldable pub Expands : Layout → Option (List ℕ) → Option (List ℕ) → Option (List ℕ) → Type 0
Expands l left old new = (raw : List ℕ) × HasRaw l left raw × Took old new raw

-- the source has bytes, at most 2^40, that are no file, and this is their first fault
abbrev pub HasNoFile : Option (List ℕ) → Fault → Type 0
HasNoFile left fault = (bytes : List ℕ) × IsAll left bytes × (length bytes ≤ 2 ^ 40) × (file_test (bits_of_bytes bytes) ≡ Err fault)

-- the source has a file of a cube that has no raw bytes in this layout
abbrev pub HasUnfit : Layout → Option (List ℕ) → Fault → Type 0
HasUnfit l left fault = (c : Image) × HasFileOf left c × IsUnfit c l fault

-- why there are no raw bytes: nothing was read, or it is no file, or a sample doesn't fit its byte
abbrev pub IsExpandRefusal : Layout → Option (List ℕ) → ℕ → ℕ → Fault → Type 0
IsExpandRefusal l left failures failures_now fault =
    IsReadRefusal left failures failures_now fault ⊎ (HasNoFile left fault ⊎ HasUnfit l left fault)

-- why a run is refused: there are no raw bytes, and nothing was written; or the sink cut them short
unfoldable pub IsExpandFault : Layout → Option (List ℕ) → ℕ → ℕ → Option (List ℕ) → Option (List ℕ) → ℕ → ℕ → ℕ → ℕ → Fault → Type 0
IsExpandFault l left read_failures read_failures_now old new failures failures_now stalls stalls_now fault =
    (IsExpandRefusal l left read_failures read_failures_now fault × (new ≡ old))
    ⊎ ((raw : List ℕ) × HasRaw l left raw × IsCutShort old new failures failures_now stalls stalls_now raw fault)
