use Rattle.std.proofs.Common.{◌≡◌, ◌+◌, ◌*◌, ◌++◌, ℕ, List, length, take}
use Rattle.cube_core.specs.Raw.{AreSamples}
use Rattle.file_encoding.specs.ByRows.{IsUnderWay}
use Rattle.raw_rows.specs.OneRow.{one_row, rows_of_raw}
use Rattle.raw_streams.specs.Rows.{row_bytes, samples_in_row}
use Rattle.ccsds_command.specs.ByRows.{AreOfRows}
use Rattle.ccsds_command.proofs.row_taker.hand_on_each.Given as goal

abbrev pub invariant-loop-i : goal.invariant-loop-i
invariant-loop-i l = record {
  row : (l.row.shape ≡ one_row (rows_of_raw l.settings.layout.order l.settings.params.shape)) × (l.row.kind ≡ l.settings.params.kind);
  under : IsUnderWay l.settings.params l.encoder;
  at : l.encoder.y ≡ l.fn.encoder.y + l.i;
  samples : length l.samples ≡ samples_in_row l.settings.params.shape l.settings.layout;
  known : AreSamples l.settings.params.kind l.settings.layout (take (l.i * row_bytes l.settings.params.shape l.settings.layout) l.bytes)
      (l.i * samples_in_row l.settings.params.shape l.settings.layout);
  handed : (before : List ℕ) → AreOfRows l.settings l.fn.encoder before
      → AreOfRows l.settings l.encoder (before ++ take (l.i * row_bytes l.settings.params.shape l.settings.layout) l.bytes);
}
