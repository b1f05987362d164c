-- How many numbers a writer has taken, and how many a reader has given.
use Rattle.std.proofs.Common.{◌≡◌, ◌+◌, ◌<◌, [], length, ap, arith}
use Rattle.block_adaptive.specs.DataSets.{capacity}
use Rattle.block_adaptive.specs.Given.{ReaderState, given_count}
use Rattle.block_adaptive.specs.Taken.{WriterState, taken_count}
use Rattle.block_adaptive.proofs.Powers.{block_left}

pub room_left : (v : WriterState) → taken_count v < capacity v.cut → v.start + v.zeros < v.cut.count
room_left v few = block_left v.cut.size v.cut.count (v.start + v.zeros) (length v.held) few

pub data_set_left : (v : ReaderState) → given_count v < capacity v.cut → v.held ≡ [] → v.block < v.cut.count
data_set_left v few none = block_left v.cut.size v.cut.count v.block 0 (omega (arith, few, ap length none))
