-- Rows that were read and coded.
use Rattle.std.specs.Prelude.{◌≡◌, ◌+◌, ◌*◌, ◌++◌, ℕ, List, Option, Ok}
use Rattle.cube_core.specs.Raw.{IsFound}
use Rattle.file_encoding.specs.ByRows.{IsUnderWay, RowEncoderState, image_so_far}
use Rattle.raw_streams.specs.Rows.{samples_in_row}
use Rattle.command_devices.specs.Devices.{Gave}
use Rattle.command_words.specs.declared.settings.CompressSettings.{CompressSettings}

-- these are the raw bytes of the rows that an encoder was handed
abbrev pub AreOfRows : CompressSettings → RowEncoderState → List ℕ → Type 0
AreOfRows s e bytes =
    IsFound s.params.shape s.params.kind s.layout bytes (e.y * samples_in_row s.params.shape s.layout) (Ok (image_so_far s.params e.offsets))

-- the source gave the raw bytes of the rows that an encoder was handed
abbrev pub HasCome : CompressSettings → RowEncoderState → Option (List ℕ) → Option (List ℕ) → Type 0
HasCome s e left now = (bytes : List ℕ) × Gave left now bytes × AreOfRows s e bytes

-- an encoder was handed so many rows more, and these are their raw bytes
pub record HandedOn (s : CompressSettings) (old new : RowEncoderState) (count : ℕ) (bytes : List ℕ) : Type 0 where
  pub under_way : IsUnderWay s.params new
  pub y : new.y ≡ old.y + count
  pub rows : (before : List ℕ) → AreOfRows s old before → AreOfRows s new (before ++ bytes)
