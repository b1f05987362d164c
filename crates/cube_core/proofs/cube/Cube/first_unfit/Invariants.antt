use Rattle.std.proofs.Common.{◌≡◌, length, drop}
use Rattle.cube_core.proofs.Words.{places, order_of, HaveBytes}
use Rattle.cube_core.proofs.cube.Cube.first_unfit.Given as goal

abbrev pub invariant-loop-place : goal.invariant-loop-place
invariant-loop-place l = record {
  left : l.places ≡ drop l.i (places l.fn.self.shape (order_of l.fn.layout.order l.fn.self.shape));
  fit : HaveBytes l.fn.self l.fn.layout l.i;
}

abbrev pub decreases-loop-place : goal.decreases-loop-place
decreases-loop-place l = length l.places
