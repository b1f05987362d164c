use Rattle.std.proofs.Common.{◌≡◌, ◌+◌, ◌-◌, ◌*◌, ◌<◌, ◌≤◌, ℕ, get_or, length, take}
use Rattle.header_bits.specs.Bits.{Unread}
use Rattle.header_bits.specs.Windows.{IsAhead}
use Rattle.sample_adaptive.specs.Pieces.{AreCounted, at_piece_end}
use Rattle.sample_adaptive.specs.Taken.{CoderState, HasSettings, Reaches, with_band}
use Rattle.sample_adaptive.proofs.alike_run.take_alike.Given as goal

abbrev pub invariant-loop-taken : goal.invariant-loop-taken
invariant-loop-taken l =
    record {
      taken : l.last < get_or l.fn.thresholds (l.entry + 520) 0 → (v : CoderState) (z t k index : ℕ) (first : Unread) → z < length v.bands → HasSettings v l.fn.settings.bits l.fn.settings.limit l.fn.settings.rescaling.size
          → 0 < t + k → Reaches (λ i. z) (λ i. t + i) k index l.fn.i v (with_band v z l.fn.statistics) first l.initial.reader l.initial.residuals
          → Reaches (λ i. z) (λ i. t + i) k index (l.fn.i + l.taken) v
          (with_band v z (at_piece_end l.fn.settings.rescaling.size (record { counter = l.fn.statistics.counter + l.taken; accumulator = l.accumulator }))) first l.ahead l.residuals;
      few : l.taken ≤ l.fn.few;
      ahead : IsAhead ((l.fn.few - l.taken) * l.fn.words.most) l.ahead.left l.bits;
      statistics : AreCounted l.fn.settings.rescaling.size (record { counter = l.fn.statistics.counter + l.taken; accumulator = l.accumulator });
      grown : l.fn.statistics.accumulator ≤ l.accumulator;
      last : l.last ≤ l.accumulator;
      before : take l.fn.i l.residuals ≡ take l.fn.i l.initial.residuals;
      count : l.ahead.count ≡ l.initial.reader.count;
      long : length l.residuals ≡ length l.initial.residuals;
    }

abbrev pub decreases-loop-taken : goal.decreases-loop-taken
decreases-loop-taken l = l.fn.few - l.taken
