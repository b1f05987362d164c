-- What `inspect` prints: the lines of its file's header, of which it reads the first bytes alone.
use Rattle.std.specs.Prelude.{◌≡◌, ◌⊎◌, ℕ, ◌^◌, ◌≤◌, List, length, Option, Some, Ok, Err}
use Rattle.cube_core.specs.declared.fault.Fault.{Fault}
use Rattle.cube_core.specs.declared.fault.Fault.TheVariants.{WantOfMemory, Read}
use Rattle.header_bits.specs.declared.params.Params.{Params}
use Rattle.header_bits.specs.Bits.{bits_of_bytes}
use Rattle.header_bits.specs.Header.{ReadsHeader}
use Rattle.command_devices.specs.Devices.{Took, IsFront, Rose}
use Rattle.command_devices.specs.Writing.{IsCutShort}
use Rattle.command_reports.specs.Lines.{header_lines}

-- no header has as many bytes
abbrev pub header_limit : ℕ
header_limit = 2 ^ 22

-- if the source exposes its bytes, these are the first 2^22 of them, or all if there are fewer
abbrev pub AreFirst : Option (List ℕ) → List ℕ → Type 0
AreFirst left bytes = IsFront header_limit left bytes × (length bytes ≤ header_limit)

-- the source's first bytes begin with a header of these parameters, and of `size` bytes; and so do all its bytes, if it exposes them
abbrev pub HasHeader : Option (List ℕ) → Params → ℕ → Type 0
HasHeader left p size =
    (bytes : List ℕ) × AreFirst left bytes × (size ≤ length bytes) × ReadsHeader (bits_of_bytes bytes) (Ok (p, size))
    × ((input : List ℕ) → left ≡ Some input → ReadsHeader (bits_of_bytes input) (Ok (p, size)))

-- the source has a header, whose lines these are
abbrev pub HasLines : Option (List ℕ) → List ℕ → Type 0
HasLines left text = (p : Params) × (size : ℕ) × HasHeader left p size × (text ≡ header_lines p size)

-- the sink gained the lines of the source's header
unfoldable pub Inspects : Option (List ℕ) → Option (List ℕ) → Option (List ℕ) → Type 0
Inspects left old new = (text : List ℕ) × HasLines left text × Took old new text

-- the source's first bytes begin with no header, and this is the first refusal
abbrev pub HasNoHeader : Option (List ℕ) → Fault → Type 0
HasNoHeader left fault = (bytes : List ℕ) × AreFirst left bytes × ReadsHeader (bits_of_bytes bytes) (Err fault)

-- why the first bytes aren't read: an allocation failed, and the source didn't; or the source failed
abbrev pub IsFirstRefusal : ℕ → ℕ → Fault → Type 0
IsFirstRefusal failures failures_now fault = ((fault ≡ WantOfMemory) × (failures_now ≡ failures)) ⊎ ((fault ≡ Read) × Rose failures failures_now)

-- why there are no lines: the first bytes weren't read, or they begin with no header
abbrev pub IsInspectRefusal : Option (List ℕ) → ℕ → ℕ → Fault → Type 0
IsInspectRefusal left failures failures_now fault = IsFirstRefusal failures failures_now fault ⊎ HasNoHeader left fault

-- why a run is refused: there are no lines, and nothing was written; or the sink cut them short
unfoldable pub IsInspectFault : Option (List ℕ) → ℕ → ℕ → Option (List ℕ) → Option (List ℕ) → ℕ → ℕ → ℕ → ℕ → Fault → Type 0
IsInspectFault left read_failures read_failures_now old new failures failures_now stalls stalls_now fault =
    (IsInspectRefusal left read_failures read_failures_now fault × (new ≡ old))
    ⊎ ((text : List ℕ) × HasLines left text × IsCutShort old new failures failures_now stalls stalls_now text fault)
