use Rattle.std.proofs.Common.{◌≡◌, ◌+◌, ◌-◌, ◌<◌, ◌≤◌, ℕ, length}
use Rattle.sample_adaptive.specs.Pieces.{AreWordsOf}
use Rattle.sample_adaptive.specs.Statistics.{AreStatistics}
use Rattle.sample_adaptive.specs.Taken.{CoderState, HasSettings, Reaches, of_band, with_band}
use Rattle.sample_adaptive.proofs.read_run.take_ready.Given as goal

abbrev pub invariant-loop-i : goal.invariant-loop-i
invariant-loop-i l =
    record {
      taken : (v : CoderState) (z t k : ℕ) → z < length v.bands → HasSettings v l.fn.settings.bits l.fn.settings.limit l.fn.settings.rescaling.size
          → of_band v.bands z ≡ l.initial.statistics → 0 < t + k
          → Reaches (λ i. z) (λ i. t + i) k l.fn.index l.i v (with_band v z l.statistics) l.initial.reader l.ahead l.residuals;
      statistics : AreStatistics l.fn.settings.rescaling.size l.statistics;
      words : AreWordsOf l.fn.settings l.words.code;
      count : l.ahead.count ≡ l.initial.reader.count;
      long : length l.residuals ≡ length l.initial.residuals;
      inside : l.i ≤ length l.residuals;
    }

abbrev pub decreases-loop-i : goal.decreases-loop-i
decreases-loop-i l = length l.residuals - l.i
