use Rattle.std.proofs.Common.{◌≡◌, ◌/◌, length}
use Rattle.block_adaptive.specs.Reading.{site_of}
use Rattle.block_adaptive.proofs.Twos.{TwosRead}
use Rattle.block_adaptive.proofs.pairs.pairs.Given as goal

abbrev pub invariant-loop-i : goal.invariant-loop-i
invariant-loop-i l = record {
  read : TwosRead (site_of l.fn.reader l.block) l.most (length l.fn.values / 2) l.fn.reader.left l.i l.values l.reader.left;
  count : l.reader.count ≡ l.fn.reader.count;
}
