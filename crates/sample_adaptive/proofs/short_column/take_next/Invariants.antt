use Rattle.std.proofs.Common.{◌≡◌, ◌+◌, ◌-◌, ◌<◌, ◌≤◌, ℕ, length}
use Rattle.header_bits.specs.Bits.{Unread}
use Rattle.sample_adaptive.specs.Taken.{CoderState, HasSettings, Reaches}
use Rattle.sample_adaptive.specs.BandStates.{AreBandStates, statistics_of}
use Rattle.sample_adaptive.proofs.short_column.take_next.Given as goal

abbrev pub invariant-loop-at : goal.invariant-loop-at
invariant-loop-at l =
    record {
      taken : (v : CoderState) (t : ℕ) (first : Unread) → 0 < t → HasSettings v l.fn.settings.bits l.fn.settings.limit l.fn.settings.rescaling.size
          → Reaches (λ i. l.fn.z + i) (λ i. t) 0 l.fn.index l.fn.i v (record v { bands = statistics_of l.initial.bands }) first l.initial.reader l.initial.residuals
          → Reaches (λ i. l.fn.z + i) (λ i. t) 0 l.fn.index l.at v (record v { bands = statistics_of l.bands }) first l.ahead l.residuals;
      state : AreBandStates l.fn.settings l.bands;
      count : l.ahead.count ≡ l.initial.reader.count;
      long : length l.residuals ≡ length l.initial.residuals;
      begun : l.fn.i ≤ l.at;
      inside : l.at ≤ length l.residuals;
      bands : length l.bands ≡ length l.initial.bands;
    }

abbrev pub decreases-loop-at : goal.decreases-loop-at
decreases-loop-at l = length l.residuals - l.at
