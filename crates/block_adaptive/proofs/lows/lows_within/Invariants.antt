use Rattle.std.proofs.Common.{◌≡◌, ◌+◌, ◌-◌, ◌%◌, ◌≤◌, length, drop}
use Rattle.header_bits.proofs.Each.{AreRead}
use Rattle.block_adaptive.specs.Reading.{site_of, low_at}
use Rattle.block_adaptive.proofs.lows.lows_within.Given as goal
use Rattle.block_adaptive.proofs.FourValues.{Within}

abbrev pub invariant-loop-first : goal.invariant-loop-first
invariant-loop-first l =
    record {
      read : AreRead (low_at (site_of l.fn.reader l.block) l.k l.most) l.fn.values l.fn.reader.left l.first l.values l.reader.left;
      within : Within l.k (l.most + 1) (drop l.first l.values);
      count : l.reader.count ≡ l.fn.reader.count;
      inside : l.first ≤ length l.values;
      fours : l.first % 4 ≡ 0;
      long : length l.values ≡ length l.fn.values;
    }

abbrev pub decreases-loop-first : goal.decreases-loop-first
decreases-loop-first l = length l.values - l.first
