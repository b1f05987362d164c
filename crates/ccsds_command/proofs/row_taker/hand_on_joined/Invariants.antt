use Rattle.std.proofs.Common.{◌≡◌, ◌+◌, ◌*◌, ◌++◌, ℕ, List, take}
use Rattle.file_encoding.specs.ByRows.{IsUnderWay}
use Rattle.raw_streams.specs.Rows.{row_bytes}
use Rattle.ccsds_command.specs.ByRows.{AreOfRows}
use Rattle.ccsds_command.proofs.row_taker.hand_on_joined.Given as goal

abbrev pub invariant-loop-i : goal.invariant-loop-i
invariant-loop-i l = record {
  under : IsUnderWay l.settings.params l.encoder;
  at : l.encoder.y ≡ l.fn.encoder.y + l.i;
  handed : (before : List ℕ) → AreOfRows l.settings l.fn.encoder before
      → AreOfRows l.settings l.encoder (before ++ take (l.i * row_bytes l.settings.params.shape l.settings.layout) l.bytes);
}
