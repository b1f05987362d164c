use Rattle.std.proofs.Common.{◌-◌, arith}
use Rattle.cube_core.proofs.Bounds.{middle_inside, shifted}
use Rattle.cube_core.proofs.kind.Kind.smid.Goals as goal

pub returns-else-self-clause-inside : goal.returns-else-self-clause-inside
returns-else-self-clause-inside c = rw (← c.self.view_is) (middle_inside _ c.self.invariant)

pub returns-else-self-clause-value : goal.returns-else-self-clause-value
returns-else-self-clause-value c = rw (← c.self.view_is, c.if-self.false) (shifted (c.self.inside.bits - 1) (omega (arith, c.self.invariant)))
