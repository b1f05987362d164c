use Rattle.std.proofs.Common.{◌≡◌, ◌+◌, ◌-◌, ◌<◌, ◌≤◌, ℕ, length}
use Rattle.sample_adaptive.specs.Taken.{CoderState, HasSettings, Reaches}
use Rattle.sample_adaptive.specs.BandStates.{AreBandStates, statistics_of}
use Rattle.sample_adaptive.proofs.column.take_ready.Given as goal

abbrev pub invariant-loop-i : goal.invariant-loop-i
invariant-loop-i l =
    record {
      taken : (v : CoderState) (t : ℕ) → 0 < t → v.bands ≡ statistics_of l.initial.bands → HasSettings v l.fn.settings.bits l.fn.settings.limit l.fn.settings.rescaling.size
          → Reaches (λ i. l.fn.z + i) (λ i. t) 0 l.fn.index l.i v (record v { bands = statistics_of l.bands }) l.initial.reader l.ahead l.residuals;
      state : AreBandStates l.fn.settings l.bands;
      count : l.ahead.count ≡ l.initial.reader.count;
      long : length l.residuals ≡ length l.initial.residuals;
      inside : l.i ≤ length l.residuals;
      bands : length l.bands ≡ length l.initial.bands;
    }

abbrev pub decreases-loop-i : goal.decreases-loop-i
decreases-loop-i l = length l.residuals - l.i
