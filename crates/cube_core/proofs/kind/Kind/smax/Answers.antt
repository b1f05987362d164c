use Rattle.std.proofs.Common.{◌-◌, arith}
use Rattle.cube_core.proofs.Bounds.{top_fits, top_is}
use Rattle.cube_core.proofs.kind.Kind.smax.Goals as goal

pub returns-then-self-clause-range : goal.returns-then-self-clause-range
returns-then-self-clause-range c = top_fits (c.self.inside.bits - 1) (omega (arith, c.self.invariant)) (omega (arith, c.self.invariant))

pub returns-else-self-clause-range : goal.returns-else-self-clause-range
returns-else-self-clause-range c = top_fits c.self.inside.bits (omega (arith, c.self.invariant)) (omega (arith, c.self.invariant))

pub returns-else-self-clause-value : goal.returns-else-self-clause-value
returns-else-self-clause-value c = rw (← c.self.view_is, c.if-self.false) (top_is c.self.inside.bits (omega (arith, c.self.invariant)))
