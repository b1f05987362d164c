use Rattle.std.proofs.Common.{◌-◌, ◌≤◌, true, length, take}
use Rattle.file_encoding.specs.Pieces.{held_at}
use Rattle.file_encoding.proofs.pieces.send_column.Given as goal

abbrev pub invariant-loop-first : goal.invariant-loop-first
invariant-loop-first g l = record {
  within : l.first ≤ length l.bands;
  sent : g.T.Taker.takes l.initial.taker l.taker true (take l.first (held_at l.bands l.i));
}

abbrev pub decreases-loop-first : goal.decreases-loop-first
decreases-loop-first g l = length l.bands - l.first
