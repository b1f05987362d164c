use Rattle.std.proofs.Common.{◌≡◌, ◌+◌, ◌-◌, ◌<◌, ◌≤◌, ℕ, length}
use Rattle.header_bits.specs.Bits.{Unread}
use Rattle.sample_adaptive.specs.Pieces.{AreCounted, AreWordsOf, at_piece_end}
use Rattle.sample_adaptive.specs.Taken.{CoderState, HasSettings, Reaches, with_band}
use Rattle.sample_adaptive.proofs.piece.take_piece.Given as goal

abbrev pub invariant-loop-taken : goal.invariant-loop-taken
invariant-loop-taken l =
    record {
      taken : (v : CoderState) (z t k index : ℕ) (first : Unread) → z < length v.bands → HasSettings v l.fn.settings.bits l.fn.settings.limit l.fn.settings.rescaling.size
          → 0 < t + k → Reaches (λ i. z) (λ i. t + i) k index l.fn.i v (with_band v z l.initial.statistics) first l.initial.reader l.initial.residuals
          → Reaches (λ i. z) (λ i. t + i) k index (l.fn.i + l.taken) v (with_band v z (at_piece_end l.fn.settings.rescaling.size l.statistics)) first l.reader l.residuals;
      few : l.taken ≤ l.whole;
      counter : l.statistics.counter ≡ l.initial.statistics.counter + l.taken;
      statistics : AreCounted l.fn.settings.rescaling.size l.statistics;
      words : AreWordsOf l.fn.settings l.words.code;
      most : l.words.most ≡ l.initial.words.most;
      count : l.reader.count ≡ l.initial.reader.count;
      long : length l.residuals ≡ length l.initial.residuals;
    }

abbrev pub decreases-loop-taken : goal.decreases-loop-taken
decreases-loop-taken l = l.whole - l.taken
