-- What is shown of a small cube.
use Rattle.std.specs.Prelude.{◌≡◌, ◌⊎◌, ℕ, ◌+◌, ◌-◌, ◌*◌, ◌==◌, nat_lt, min, if◌then◌else◌, false, List, [], ◌∷◌, ◌++◌, length, slice_index, Option}
use Rattle.std.specs.Prelude.{Some, None}
use Rattle.hex.specs.Hex.{encode_lower}
use Rattle.cube_core.specs.declared.fault.Fault.{Fault}
use Rattle.cube_core.specs.declared.fault.Fault.TheVariants.{WantOfMemory, RawLength, Read}
use Rattle.cube_core.specs.declared.layout.Layout.{Layout}
use Rattle.cube_core.specs.declared.layout.RawOrder.TheVariants as raw
use Rattle.cube_core.specs.Shape.{Sizes, sample_count}
use Rattle.cube_core.specs.Kind.{SampleKind}
use Rattle.cube_core.specs.Image.{Image, IsCube}
use Rattle.cube_core.specs.Layout.{raw_bytes}
use Rattle.header_bits.specs.Plain.{plain}
use Rattle.coder_pipe.specs.File.{file_of}
use Rattle.command_devices.specs.Devices.{Took, Rose}
use Rattle.command_devices.specs.Writing.{IsCutShort}

-- unsigned samples of 8 bits
abbrev pub shown_kind : SampleKind
shown_kind = record { signed = false; bits = 8 }

-- the size that two bytes spell, the high one first; 0 stands for 65,536
abbrev pub size_of : ℕ → ℕ → ℕ
size_of high low = if high * 256 + low == 0 then 65536 else high * 256 + low

-- columns, rows and bands, two bytes each
abbrev pub sizes_of : List ℕ → Sizes
sizes_of bytes = record {
  columns = size_of (slice_index bytes 0) (slice_index bytes 1);
  rows = size_of (slice_index bytes 2) (slice_index bytes 3);
  bands = size_of (slice_index bytes 4) (slice_index bytes 5);
}

abbrev pub shown_layout : Layout
shown_layout = record { order = raw.Bsq; bytes = 1; little = false }

-- the text of a cube: its file by the plainest parameters, in lower-case hexadecimal, and a newline
abbrev pub shown_text : Image → List ℕ
shown_text c = encode_lower (file_of c (plain c.shape shown_kind)) ++ 10 ∷ []

-- an input is three sizes and the samples of a cube of that shape, whose text this is
pub record IsTextOf (input text : List ℕ) : Type 0 where
  pub cube : Image
  pub whole : IsCube cube
  pub kind : cube.kind ≡ shown_kind
  pub sizes : List ℕ
  pub six : length sizes ≡ 6
  pub shape : cube.shape ≡ sizes_of sizes
  pub input_is : input ≡ sizes ++ raw_bytes cube shown_layout
  pub text_is : text ≡ shown_text cube

-- where a source tells its bytes, this is their text; it is some cube's text in any case
pub record IsShown (left : Option (List ℕ)) (text : List ℕ) : Type 0 where
  pub told : (input : List ℕ) → left ≡ Some input → IsTextOf input text
  pub some_input : List ℕ
  pub some : IsTextOf some_input text

-- the sink gained the text of the source's bytes
unfoldable pub Shows : Option (List ℕ) → Option (List ℕ) → Option (List ℕ) → Type 0
Shows left old new = (text : List ℕ) × IsShown left text × Took old new text

-- an input's length is wrong: that of the sizes, or then that of the samples, of which at most one too many is read
abbrev pub length_fault : List ℕ → Option Fault
length_fault input =
    let wanted = sample_count (sizes_of input) in
    let had = min (length input - 6) (wanted + 1) in
    if nat_lt (length input) 6 then Some (RawLength 6 (length input))
    else if had == wanted then None
    else Some (RawLength wanted had)

-- no more is read than the sizes, the samples and a byte
abbrev pub show_limit : List ℕ → ℕ
show_limit input = 7 + sample_count (sizes_of input)

-- why nothing is shown: the source failed, the length of what was read of the input, or want of memory
abbrev pub IsShowRefusal : Option (List ℕ) → ℕ → ℕ → Fault → Type 0
IsShowRefusal left failures failures_now fault =
    ((fault ≡ Read) × Rose failures failures_now) ⊎ ((fault ≡ WantOfMemory) ⊎ (((read : List ℕ) × (length_fault read ≡ Some fault)) × ((input : List ℕ)
    → left ≡ Some input → length_fault input ≡ Some fault)))

-- why a run is refused: nothing is shown, and nothing was written; or the sink cut the text short
unfoldable pub IsShowFault : Option (List ℕ) → ℕ → ℕ → Option (List ℕ) → Option (List ℕ) → ℕ → ℕ → ℕ → ℕ → Fault → Type 0
IsShowFault left read_failures read_failures_now old new failures failures_now stalls stalls_now fault =
    (IsShowRefusal left read_failures read_failures_now fault × (new ≡ old)) ⊎ ((text : List ℕ) × IsShown left text
    × IsCutShort old new failures failures_now stalls stalls_now text fault)
