use Rattle.std.proofs.Common.{◌≡◌, ◌+◌, ◌-◌, ◌*◌, ◌<◌, ◌≤◌, ℕ, length}
use Rattle.header_bits.specs.Bits.{Unread}
use Rattle.header_bits.specs.Windows.{IsAhead}
use Rattle.sample_adaptive.specs.Taken.{CoderState, HasSettings, Reaches}
use Rattle.sample_adaptive.specs.BandStates.{AreBandStates, statistics_of}
use Rattle.sample_adaptive.proofs.short_column.take_few.Given as goal

abbrev pub invariant-loop-taken : goal.invariant-loop-taken
invariant-loop-taken l =
    record {
      taken : (v : CoderState) (t index : ℕ) (first : Unread) → 0 < t → HasSettings v l.fn.settings.bits l.fn.settings.limit l.fn.settings.rescaling.size
          → Reaches (λ i. l.fn.z + i) (λ i. t) 0 index l.fn.i v (record v { bands = statistics_of l.initial.bands }) first l.initial.reader l.initial.residuals
          → Reaches (λ i. l.fn.z + i) (λ i. t) 0 index (l.fn.i + l.taken) v (record v { bands = statistics_of l.bands }) first l.reader l.residuals;
      few : l.taken ≤ l.fn.few;
      ahead : IsAhead ((l.fn.few - l.taken) * l.most) l.reader.left l.bits;
      state : AreBandStates l.fn.settings l.bands;
      count : l.reader.count ≡ l.initial.reader.count;
      long : length l.residuals ≡ length l.initial.residuals;
      bands : length l.bands ≡ length l.initial.bands;
    }

abbrev pub decreases-loop-taken : goal.decreases-loop-taken
decreases-loop-taken l = l.fn.few - l.taken
