use Rattle.std.proofs.Common.{◌≡◌, ◌+◌, ◌-◌, ◌*◌, ◌≤◌, length}
use Rattle.sample_adaptive.specs.BandStates.{AreBandStates}
use Rattle.sample_adaptive.proofs.Columns.{Puts}
use Rattle.sample_adaptive.proofs.written_column.put_later.Given as goal

abbrev pub invariant-loop-i : goal.invariant-loop-i
invariant-loop-i l =
    record {
      puts : Puts l.settings l.z l.residuals l.fn.bands l.bands l.fn.writer.bits l.writer.bits l.i;
      state : AreBandStates l.settings l.bands;
      count : length l.bands ≡ length l.fn.bands;
      within : l.i ≤ length l.residuals;
      room : l.fn.writer.room ≤ l.writer.room + 48 * l.i;
      still : l.writer.room ≤ l.fn.writer.room;
    }

abbrev pub decreases-loop-i : goal.decreases-loop-i
decreases-loop-i l = length l.residuals + 1 - l.i
