-- What takes rows from their raw bytes.
use Rattle.std.specs.Prelude.{ℕ, ◌≡◌, ◌*◌, length}
use Rattle.cube_core.specs.declared.layout.RawOrder.TheVariants.{Bsq}
use Rattle.cube_core.specs.Image.{Image}
use Rattle.command_words.specs.declared.settings.CompressSettings.{CompressSettings}
use Rattle.raw_rows.specs.OneRow.{one_row, rows_of_raw}
use Rattle.raw_streams.specs.Rows.{samples_in_row}
use Rattle.ccsds_command.specs.declared.row_taker.RowTaker.{RowTaker}
use Rattle.ccsds_command.specs.declared.row_taker.RowTaker.TheVariants as taker

-- a row of one band, as long as so many rows
abbrev pub IsJoined : CompressSettings → ℕ → Image → Type 0
IsJoined s most row =
    (row.shape ≡ record { columns = most * s.params.shape.columns; rows = 1; bands = 1 }) × (row.kind ≡ s.params.kind)

-- it takes up to so many rows of an image at once
abbrev pub IsTaker : CompressSettings → ℕ → RowTaker → Type 0
IsTaker s most (taker.Single row samples) =
    (row.shape ≡ one_row (rows_of_raw s.layout.order s.params.shape)) × (row.kind ≡ s.params.kind)
    × (length samples.items ≡ samples_in_row s.params.shape s.layout)
IsTaker s most (taker.Joined row) = (s.layout.order ≡ Bsq) × IsJoined s most row
