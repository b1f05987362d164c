use Rattle.std.proofs.Common.{◌≡◌, ◌+◌, ◌-◌, ◌*◌, ◌≤◌, ◌++◌, ℕ, length, take}
use Rattle.header_bits.specs.Bits.{Written}
use Rattle.sample_adaptive.specs.declared.band_state.BandState.{BandState}
use Rattle.sample_adaptive.specs.declared.kept_codes.KeptCodes.{KeptCodes}
use Rattle.sample_adaptive.specs.declared.written_run.LaterRun.{LaterRun}
use Rattle.sample_adaptive.specs.BandStates.{IsBandState}
use Rattle.sample_adaptive.specs.Runs.{IsKeptCodes, words_from}
use Rattle.sample_adaptive.specs.Statistics.{statistics_from}
use Rattle.sample_adaptive.proofs.written_run.put_words.Given as goal

-- the code words of the first i residuals are written
pub record Reached (run : LaterRun) (before now : Written) (state : BandState) (codes : KeptCodes) (i : ℕ) : Type 0 where
  pub text : now.bits ≡ before.bits ++ words_from run.settings run.state.statistics (take i run.residuals.now)
  pub statistics : state.statistics ≡ statistics_from run.settings.rescaling.size run.state.statistics (take i run.residuals.now)
  pub kept : IsBandState run.settings state
  pub codes_kept : IsKeptCodes run.settings.bits run.settings.limit codes
  pub within : i ≤ length run.residuals.now
  pub room : before.room ≤ now.room + 48 * i
  pub still : now.room ≤ before.room

abbrev pub invariant-loop-i : goal.invariant-loop-i
invariant-loop-i l = Reached l.run l.fn.writer l.writer l.state l.codes l.i

abbrev pub decreases-loop-i : goal.decreases-loop-i
decreases-loop-i l = length l.residuals - l.i
