-- What encoding and decoding the caller's bytes gives.
use Rattle.std.specs.Prelude.{ℕ, ◌≡◌, ◌≢◌, ◌⊎◌, ◌*◌, ◌<◌, ℤ, List, length, Ok, Err}
use Rattle.cube_core.specs.declared.fault.Fault.{Fault}
use Rattle.cube_core.specs.declared.fault.Fault.TheVariants.{WantOfMemory, RawLength, SampleRange}
use Rattle.cube_core.specs.declared.layout.Layout.{Layout}
use Rattle.cube_core.specs.Shape.{sample_count}
use Rattle.cube_core.specs.Image.{Image}
use Rattle.cube_core.specs.Layout.{raw_bytes, HaveBytes, IsFirstUnfit}
use Rattle.cube_core.specs.Raw.{IsBadSample, IsUnfit}
use Rattle.header_bits.specs.declared.params.Params.{Params}
use Rattle.header_bits.specs.Bits.{bits_of_bytes}
use Rattle.predict_core.specs.Cubes.{IsCubeOf}
use Rattle.file_format.specs.File.{file_of}
use Rattle.file_format.specs.Files.{IsFile, file_test}
use Rattle.ccsds123.specs.declared.records.ParamsRecord.{ParamsRecord}
use Rattle.ccsds123.specs.declared.records.LayoutRecord.{LayoutRecord}
use Rattle.ccsds123.specs.declared.refusal.Refusal.{Refusal}
use Rattle.ccsds123.specs.declared.refusal.Refusal.TheVariants as refusal
use Rattle.ccsds123.specs.declared.refusal.Room.TheVariants as room
use Rattle.ccsds123.specs.Asked.{Ask, ◌and◌, params_of, params_test, layout_of, layout_test}
use Rattle.ccsds123.specs.Header.{fronted, length_test}

-- ---- encoding

-- the bytes are the file of the cube whose raw bytes are given
pub record IsFileOfRaw (p : Params) (l : Layout) (raw file : List ℕ) : Type 0 where
  pub cube : Image
  pub whole : IsCubeOf p cube
  pub fits : HaveBytes cube l (sample_count cube.shape)
  pub raw_is : raw_bytes cube l ≡ raw
  pub file_is : file ≡ file_of cube p

-- how many raw bytes the cubes of parameters have
abbrev pub raw_length : Params → Layout → ℕ
raw_length p l = sample_count p.shape * l.bytes

-- why raw bytes have no file: their number is wrong, a sample isn't of the kind, or there is no memory
abbrev pub IsRawRefusal : Params → Layout → List ℕ → Fault → Type 0
IsRawRefusal p l raw fault =
    ((fault ≡ RawLength (raw_length p l) (length raw)) × (length raw ≢ raw_length p l))
    ⊎ ((fault ≡ WantOfMemory) ⊎ IsBadSample p.kind l raw fault)

-- what the caller of `ccsds123_encode` gives
pub record Encoding : Type 0 where
  pub params : ParamsRecord
  pub weights : List ℤ
  pub accumulators : List ℕ
  pub layout : LayoutRecord
  pub raw : List ℕ

abbrev pub asked_params : Encoding → Params
asked_params g = params_of g.params g.weights g.accumulators

-- parameters and layout pass their tests
abbrev pub ArePassed : Encoding → Type 0
ArePassed g = (params_test g.params g.weights g.accumulators ≡ Ok tt) × (layout_test g.layout ≡ Ok tt)

-- why there is no file: the parameters or the layout don't pass, the raw bytes have none, or the room is too small for it
abbrev pub IsEncodeFault : Encoding → ℕ → Refusal → Type 0
IsEncodeFault g had e =
    (params_test g.params g.weights g.accumulators ≡ Err e)
    ⊎ ((e ≡ refusal.Coder WantOfMemory)
    ⊎ (((params_test g.params g.weights g.accumulators ≡ Ok tt) × (layout_test g.layout ≡ Err e))
    ⊎ ((ArePassed g × (fault : Fault) × (e ≡ refusal.Coder fault) × IsRawRefusal (asked_params g) (layout_of g.layout) g.raw fault)
    ⊎ (ArePassed g × (file : List ℕ) × IsFileOfRaw (asked_params g) (layout_of g.layout) g.raw file × (had < length file)
    × (e ≡ refusal.Room room.File (length file) had)))))

-- encoding into a room: the file stands in its front, and its length is told; or a refusal, and nothing was written
unfoldable pub EncodesInto : Encoding → List ℕ → List ℕ → ℕ → Ask → Type 0
EncodesInto g old new told (Ok done) =
    ArePassed g × (file : List ℕ) × IsFileOfRaw (asked_params g) (layout_of g.layout) g.raw file × (new ≡ fronted file old) × (told ≡ length file)
EncodesInto g old new told (Err e) = IsEncodeFault g (length old) e × (new ≡ old) × (told ≡ 0)

-- ---- decoding

-- the bytes are a file of parameters and a cube
abbrev pub IsFileOf : List ℕ → Image → Type 0
IsFileOf file c = (p : Params) × IsFile file p c

-- these are the raw bytes of the cube of a file, and its samples fit their bytes
pub record IsRawOfFile (l : Layout) (file raw : List ℕ) : Type 0 where
  pub cube : Image
  pub decoded : IsFileOf file cube
  pub fits : HaveBytes cube l (sample_count cube.shape)
  pub raw_is : raw ≡ raw_bytes cube l

-- why a cube's raw bytes don't go to a room: a sample doesn't fit in its byte; or else the room is too small for them
abbrev pub IsPutFault : Image → Layout → ℕ → Refusal → Type 0
IsPutFault c l had e =
    ((i : ℕ) × (e ≡ refusal.Coder (SampleRange i)) × IsFirstUnfit c l i)
    ⊎ (HaveBytes c l (sample_count c.shape) × (had < length (raw_bytes c l)) × (e ≡ refusal.Room room.Raw (length (raw_bytes c l)) had))

-- why bytes have no raw bytes: they are no file, and this is their first fault; there is no memory; or a sample doesn't fit in its byte
abbrev pub IsFileRefusal : Layout → List ℕ → Fault → Type 0
IsFileRefusal l file fault =
    (fault ≡ WantOfMemory) ⊎ ((file_test (bits_of_bytes file) ≡ Err fault) ⊎ ((c : Image) × IsFileOf file c × IsUnfit c l fault))

-- why nothing is decoded: the layout doesn't pass, the bytes are too many, they have no raw bytes, or the room is too small for these
abbrev pub IsDecodeFault : LayoutRecord → List ℕ → ℕ → Refusal → Type 0
IsDecodeFault l file had e =
    ((layout_test l and length_test file) ≡ Err e)
    ⊎ (((layout_test l and length_test file) ≡ Ok tt) × (((fault : Fault) × (e ≡ refusal.Coder fault) × IsFileRefusal (layout_of l) file fault)
    ⊎ ((raw : List ℕ) × IsRawOfFile (layout_of l) file raw × (had < length raw) × (e ≡ refusal.Room room.Raw (length raw) had))))

-- decoding into a room: the raw bytes stand in its front, and their number is told; or a refusal, and nothing was written
unfoldable pub DecodesInto : LayoutRecord → List ℕ → List ℕ → List ℕ → ℕ → Ask → Type 0
DecodesInto l file old new told (Ok done) =
    ((layout_test l and length_test file) ≡ Ok tt) × (raw : List ℕ) × IsRawOfFile (layout_of l) file raw × (new ≡ fronted raw old) × (told ≡ length raw)
DecodesInto l file old new told (Err e) = IsDecodeFault l file (length old) e × (new ≡ old) × (told ≡ 0)
