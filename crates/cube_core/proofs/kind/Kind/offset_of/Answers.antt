use Rattle.std.proofs.Common.{arith}
use Rattle.std.proofs.lemmas.Int.{ints}
use Rattle.cube_core.proofs.Bounds.{abs_up}
use Rattle.cube_core.proofs.Offsets.{offset_range}
use Rattle.cube_core.proofs.kind.Kind.offset_of.Goals as goal

pub overflow_cast-result : goal.overflow_cast-result
overflow_cast-result c = omega (arith, ints, offset_range c.args.self c.args.sample (assumption) c.requires)

pub returns-clause-value : goal.returns-clause-value
returns-clause-value c = omega (arith, ints, abs_up, offset_range c.args.self c.args.sample (assumption) c.requires)

pub returns-clause-below : goal.returns-clause-below
returns-clause-below c = omega (arith, ints, abs_up, offset_range c.args.self c.args.sample (assumption) c.requires)
