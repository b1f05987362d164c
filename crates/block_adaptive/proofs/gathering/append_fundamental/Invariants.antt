use Rattle.header_bits.specs.Bits.{fundamental}
use Rattle.block_adaptive.proofs.Gathers.{Goes}
use Rattle.block_adaptive.proofs.gathering.append_fundamental.Given as goal

abbrev pub invariant-loop-left : goal.invariant-loop-left
invariant-loop-left l = Goes l.initial.writer l.writer (fundamental l.zeros) (fundamental l.left)

abbrev pub decreases-loop-left : goal.decreases-loop-left
decreases-loop-left l = l.left
