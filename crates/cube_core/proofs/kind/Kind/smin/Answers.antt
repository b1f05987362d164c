use Rattle.std.proofs.Common.{◌-◌, arith}
use Rattle.std.proofs.lemmas.Int.{ints}
use Rattle.cube_core.proofs.Bounds.{shifted, power_grows}
use Rattle.cube_core.proofs.kind.Kind.smin.Goals as goal

pub returns-then-self-clause-value : goal.returns-then-self-clause-value
returns-then-self-clause-value c =
    let least = c.self.inside.bits - 1 in
    rw (← c.self.view_is, c.if-self.true, shifted least (omega (arith, c.self.invariant))) (omega (arith, ints, power_grows least 16))
