use Rattle.std.proofs.Common.{◌≤◌, ◌-◌, length, take}
use Rattle.file_encoding.specs.Ends.{CodesAll}
use Rattle.cube_core.specs.Along.{AreByRows}
use Rattle.file_encoding.proofs.file_encoder.FileEncoder.put_rows.Given as goal

abbrev pub invariant-loop-first : goal.invariant-loop-first
invariant-loop-first l =
    record {
      coded : CodesAll l.initial.self l.self (take l.first l.residuals);
      rows : AreByRows l.self.columns l.self.left;
      within : l.first ≤ length l.residuals;
    }

abbrev pub decreases-loop-first : goal.decreases-loop-first
decreases-loop-first l = length l.residuals - l.first
