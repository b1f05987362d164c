use Rattle.std.proofs.Common.{◌≡◌, ◌+◌, ◌-◌, ◌*◌, ◌≤◌, ◌++◌, ℕ, List, Bool, take}
use Rattle.header_bits.specs.Bits.{Written}
use Rattle.sample_adaptive.specs.declared.written_run.LaterRun.{LaterRun}
use Rattle.sample_adaptive.specs.declared.written_run.PieceState.{PieceState}
use Rattle.sample_adaptive.specs.Runs.{IsKeptCode, sum_after, words_from}
use Rattle.sample_adaptive.proofs.written_run.put_each.Given as goal

-- the code words of the residuals before i are written
pub record Reached (run : LaterRun) (before now : Written) (state : PieceState) (first i : ℕ) : Type 0 where
  pub text : (old : List Bool) → before.bits ≡ old ++ words_from run.settings run.state.statistics (take first run.residuals.now)
      → now.bits ≡ old ++ words_from run.settings run.state.statistics (take i run.residuals.now)
  pub kept : IsKeptCode run.settings.bits run.state.statistics.counter state.kept
  pub sum : state.accumulator ≡ sum_after run.state.statistics run.residuals.now i
  pub room : before.room ≤ now.room + 48 * (i - first)
  pub still : now.room ≤ before.room

abbrev pub invariant-loop-i : goal.invariant-loop-i
invariant-loop-i l = Reached l.run l.fn.writer l.writer l.state l.first l.i
