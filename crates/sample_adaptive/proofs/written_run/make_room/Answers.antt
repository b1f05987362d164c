use Rattle.std.proofs.Common.{rules, arith}
use Rattle.sample_adaptive.proofs.written_run.make_room.Goals as goal

pub returns-clause-bounded : goal.returns-clause-bounded
returns-clause-bounded c = omega arith

pub returns-clause-within : goal.returns-clause-within
returns-clause-within c = search rules
