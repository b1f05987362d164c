-- What the calls give that encode a scene row by row.
use Rattle.std.specs.Prelude.{ℕ, ◌≡◌, ◌≢◌, ◌⊎◌, ◌+◌, ◌*◌, ◌<◌, ◌≤◌, ℤ, List, [], ◌++◌, length, Option, None, Some, Ok, Err}
use Rattle.cube_core.specs.declared.fault.Fault.{Fault}
use Rattle.cube_core.specs.declared.fault.Fault.TheVariants.{WantOfMemory, RawLength, Usage}
use Rattle.cube_core.specs.Raw.{IsBadSample}
use Rattle.ccsds123.specs.declared.records.ParamsRecord.{ParamsRecord}
use Rattle.ccsds123.specs.declared.records.LayoutRecord.{LayoutRecord}
use Rattle.ccsds123.specs.declared.refusal.Refusal.TheVariants as refusal
use Rattle.ccsds123.specs.declared.refusal.Room.TheVariants as room
use Rattle.ccsds123.specs.Asked.{Ask, ◌and◌, params_of, params_test, layout_of, layout_test, together_test}
use Rattle.ccsds123.specs.Header.{fronted}
use Rattle.ccsds123.specs.Coding.{IsFileOfRaw, raw_length}
use Rattle.ccsds123.specs.Scenes.{Scene, row_bytes}

-- ---- beginning

-- what the caller of `ccsds123_encoder_begin` gives
pub record Beginning : Type 0 where
  pub params : ParamsRecord
  pub weights : List ℤ
  pub accumulators : List ℕ
  pub layout : LayoutRecord

-- all tests, in their order
abbrev pub begin_test : Beginning → Ask
begin_test g = params_test g.params g.weights g.accumulators and layout_test g.layout and together_test g.params g.layout

-- the scene of which no row has come
abbrev pub begun : Beginning → Scene
begun g = record { params = params_of g.params g.weights g.accumulators; layout = layout_of g.layout; raw = [] }

-- beginning: there is an encoder; or a refusal, and there is none
unfoldable pub Begins : Beginning → Option Scene → Ask → Type 0
Begins g new (Ok done) = (begin_test g ≡ Ok tt) × (new ≡ Some (begun g))
Begins g new (Err e) = ((begin_test g ≡ Err e) ⊎ (e ≡ refusal.Coder WantOfMemory)) × (new ≡ None)

-- ---- rows

-- bytes are whole rows, and no more than the scene still wants
pub record AreMoreRows (s : Scene) (bytes : List ℕ) : Type 0 where
  pub count : ℕ
  pub whole : length bytes ≡ count * row_bytes s.params s.layout
  pub room : length s.raw + length bytes ≤ raw_length s.params s.layout

abbrev pub with_more : Scene → List ℕ → Scene
with_more s bytes = record s { raw = s.raw ++ bytes }

-- the fault tells the scene's raw bytes, and those that have come with these, which aren't more rows of it
abbrev pub IsWrongCount : Scene → List ℕ → Fault → Type 0
IsWrongCount s bytes fault = (fault ≡ RawLength (raw_length s.params s.layout) (length s.raw + length bytes)) × (AreMoreRows s bytes → ⊥)

-- there is no memory; or this is the first sample in the scene that isn't of the kind
abbrev pub IsRowRefusal : Scene → List ℕ → Fault → Type 0
IsRowRefusal s bytes fault = (fault ≡ WantOfMemory) ⊎ IsBadSample s.params.kind s.layout (s.raw ++ bytes) fault

abbrev pub IsRowsRefusal : Scene → List ℕ → Fault → Type 0
IsRowsRefusal s bytes fault = IsWrongCount s bytes fault ⊎ IsRowRefusal s bytes fault

-- taking rows: they are the scene's next ones; or a refusal, and there is no encoder any more
unfoldable pub TakesRows : Option Scene → List ℕ → Option Scene → Ask → Type 0
TakesRows None bytes new outcome = (outcome ≡ Err (refusal.Coder Usage)) × (new ≡ None)
TakesRows (Some s) bytes new (Ok done) = AreMoreRows s bytes × (new ≡ Some (with_more s bytes))
TakesRows (Some s) bytes new (Err e) = ((fault : Fault) × (e ≡ refusal.Coder fault) × IsRowsRefusal s bytes fault) × (new ≡ None)

-- ---- ending

-- rows are missing, or there is no memory
abbrev pub IsEndRefusal : Scene → Fault → Type 0
IsEndRefusal s fault =
    ((fault ≡ RawLength (raw_length s.params s.layout) (length s.raw)) × (length s.raw ≢ raw_length s.params s.layout)) ⊎ (fault ≡ WantOfMemory)

-- ending into a room: the file of the raw bytes that have come stands in its front, and its length is told. Or a refusal, and nothing was written:
-- the encoder stays where the room was too small for the file, and else there is none any more
unfoldable pub EndsInto : Option Scene → Option Scene → List ℕ → List ℕ → ℕ → Ask → Type 0
EndsInto None new old now told outcome = (outcome ≡ Err (refusal.Coder Usage)) × (new ≡ None) × (now ≡ old) × (told ≡ 0)
EndsInto (Some s) new old now told (Ok done) =
    ((file : List ℕ) × IsFileOfRaw s.params s.layout s.raw file × (now ≡ fronted file old) × (told ≡ length file)) × (new ≡ None)
EndsInto (Some s) new old now told (Err e) =
    (((fault : Fault) × (e ≡ refusal.Coder fault) × IsEndRefusal s fault × (new ≡ None))
    ⊎ ((file : List ℕ) × IsFileOfRaw s.params s.layout s.raw file × (length old < length file) × (e ≡ refusal.Room room.File (length file) (length old))
    × (new ≡ Some s))) × (now ≡ old) × (told ≡ 0)
