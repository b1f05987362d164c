use Rattle.std.proofs.Common.{true}
use Rattle.file_encoding.specs.Pieces.{held_of}
use Rattle.file_encoding.proofs.pieces.send_columns.Given as goal

abbrev pub invariant-loop-i : goal.invariant-loop-i
invariant-loop-i g l = g.T.Taker.takes l.initial.taker l.taker true (held_of l.bands l.i)
