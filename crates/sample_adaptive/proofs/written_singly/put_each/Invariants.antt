use Rattle.std.proofs.Common.{◌≡◌, ◌+◌, ◌*◌, ◌≤◌, length}
use Rattle.sample_adaptive.specs.BandStates.{AreBandStates}
use Rattle.sample_adaptive.proofs.Columns.{Puts}
use Rattle.sample_adaptive.proofs.written_singly.put_each.Given as goal

abbrev pub invariant-loop-i : goal.invariant-loop-i
invariant-loop-i l =
    record {
      puts : Puts l.settings l.at l.residuals l.fn.bands l.bands l.fn.writer.bits l.writer.bits l.i;
      state : AreBandStates l.settings l.bands;
      count : length l.bands ≡ length l.fn.bands;
      room : l.fn.writer.room ≤ l.writer.room + 48 * l.i;
      still : l.writer.room ≤ l.fn.writer.room;
    }
