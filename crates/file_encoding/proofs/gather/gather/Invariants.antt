use Rattle.std.proofs.Common.{◌≡◌, take}
use Rattle.file_encoding.specs.Pieces.{held_at}
use Rattle.file_encoding.proofs.gather.gather.Given as goal

abbrev pub invariant-loop-k : goal.invariant-loop-k
invariant-loop-k l = take l.k l.residuals ≡ held_at (take l.k l.bands) l.i
