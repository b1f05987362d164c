use Rattle.std.proofs.Common.{◌≡◌, ◌+◌, ◌-◌, ◌*◌, ◌≤◌, ◌++◌, ℕ, length, take}
use Rattle.header_bits.specs.Bits.{Written}
use Rattle.sample_adaptive.specs.declared.eight_run.LaneState.{LaneState}
use Rattle.sample_adaptive.specs.declared.written_run.LaterRun.{LaterRun}
use Rattle.sample_adaptive.specs.Runs.{IsKeptCodes, sum_after, words_from}
use Rattle.sample_adaptive.proofs.written_run.put_piece.Given as goal

-- the code words of the first i residuals are written
pub record Reached (run : LaterRun) (before now : Written) (state : LaneState) (i : ℕ) : Type 0 where
  pub text : now.bits ≡ before.bits ++ words_from run.settings run.state.statistics (take i run.residuals.now)
  pub kept : IsKeptCodes run.settings.bits run.settings.limit state.codes
  pub sum : state.accumulator ≡ sum_after run.state.statistics run.residuals.now i
  pub within : i ≤ length run.residuals.now
  pub room : before.room ≤ now.room + 48 * i
  pub still : now.room ≤ before.room

abbrev pub invariant-loop-i : goal.invariant-loop-i
invariant-loop-i l = Reached l.run l.fn.writer l.writer l.state l.i

abbrev pub decreases-loop-i : goal.decreases-loop-i
decreases-loop-i l = l.count + 1 - l.i
