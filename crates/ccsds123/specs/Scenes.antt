-- A scene that is encoded while its raw bytes come, row after row.
use Rattle.std.specs.Prelude.{ℕ, ◌≡◌, ◌*◌, ◌^◌, ◌<◌, ◌≤◌, Bool, true, false, List, length, take, Option, None, Some, Ok}
use Rattle.std.specs.List.{AllByRecursion}
use Rattle.cube_core.specs.declared.layout.Layout.{Layout}
use Rattle.cube_core.specs.Image.{Image}
use Rattle.cube_core.specs.Layout.{IsLayout, raw_bytes}
use Rattle.cube_core.specs.Raw.{IsFound}
use Rattle.header_bits.specs.declared.params.Params.{Params}
use Rattle.header_bits.specs.Lawful.{IsLawful}
use Rattle.file_encoding.specs.ByRows.{image_so_far, AreAllRows, IsFileOfRows, IsUnderWay, rows_of_order}
use Rattle.raw_rows.specs.OneRow.{rows_of_raw, samples_of_row}
use Rattle.raw_rows.specs.Together.{GoTogether}
use Rattle.ccsds123.specs.Coding.{IsFileOfRaw}
use Rattle.ccsds123.specs.declared.scene.SceneEncoder.{SceneEncoder}
use Rattle.ccsds123.specs.declared.scene.Stage.{Stage}
use Rattle.ccsds123.specs.declared.scene.Stage.TheVariants as stage

-- what an encoder was begun with, and the raw bytes that have come since
pub record Scene : Type 0 where
  pub params : Params
  pub layout : Layout
  pub raw : List ℕ

-- the samples and the bytes of a row, and how many rows there are
abbrev pub samples_in_row : Params → Layout → ℕ
samples_in_row p l = samples_of_row (rows_of_raw l.order p.shape)

abbrev pub row_bytes : Params → Layout → ℕ
row_bytes p l = samples_in_row p l * l.bytes

abbrev pub all_rows : Params → Layout → ℕ
all_rows p l = (rows_of_raw l.order p.shape).rows

-- an image that has the rows which have come, and the scene: the image's raw bytes up to the last of these rows
abbrev pub image_in : SceneEncoder → Image
image_in s = image_so_far s.params s.handed.offsets

abbrev pub scene_of : SceneEncoder → Scene
scene_of s = record { params = s.params; layout = s.layout; raw = take (s.rows * samples_in_row s.params s.layout * s.layout.bytes) (raw_bytes (image_in s) s.layout) }

-- the rows are being encoded; or all of them were, and this is their file
abbrev pub IsAtStage : Params → List ℕ → ℕ → Stage → Type 0
IsAtStage p offsets y (stage.Rows e) = IsUnderWay p e × (e.offsets ≡ offsets) × (e.y ≡ y)
IsAtStage p offsets y (stage.File file) = (y ≡ (rows_of_order p.order p.shape).rows) × IsFileOfRows p offsets file.items

-- all rows were encoded
abbrev pub IsAllThere : Stage → Type 0
IsAllThere (stage.Rows e) = AreAllRows e
IsAllThere (stage.File file) = Unit {0}

-- this is the file of all rows
abbrev pub IsWrittenAs : Params → List ℕ → Stage → Type 0
IsWrittenAs p offsets (stage.Rows e) = ⊥
IsWrittenAs p offsets (stage.File file) = IsFileOfRows p offsets file.items

-- an encoder keeps what it was begun with, and has encoded the rows that have come
pub record IsOpen (s : SceneEncoder) : Type 0 where
  pub lawful : IsLawful s.params
  pub layout : IsLayout s.layout
  pub together : GoTogether s.layout.order s.params.order
  pub few : s.rows ≤ all_rows s.params s.layout
  pub size : length s.handed.offsets ≡ s.rows * samples_in_row s.params s.layout
  pub range : AllByRecursion (λ v. v < 2 ^ s.params.kind.bits) s.handed.offsets
  pub found : IsFound s.params.shape s.params.kind s.layout (scene_of s).raw (s.rows * samples_in_row s.params s.layout) (Ok (image_in s))
  pub stage : IsAtStage s.params s.handed.offsets s.rows s.stage

-- the file is made, and is that of the raw bytes which have come
abbrev pub IsWrittenFor : Scene → Stage → Type 0
IsWrittenFor scene (stage.Rows e) = ⊥
IsWrittenFor scene (stage.File file) = IsFileOfRaw scene.params scene.layout scene.raw file.items

abbrev pub IsWritten : SceneEncoder → Type 0
IsWritten s = IsWrittenFor (scene_of s) s.stage

abbrev pub is_there : Option SceneEncoder → Bool
is_there None = false
is_there (Some s) = true

-- the scene of a handle, if there is one
abbrev pub told_scene : Option SceneEncoder → Option Scene
told_scene None = None
told_scene (Some s) = Some (scene_of s)
