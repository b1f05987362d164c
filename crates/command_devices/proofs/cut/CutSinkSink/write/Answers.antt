use Rattle.std.proofs.Common.{rules, arith}
use Rattle.command_devices.proofs.cut.CutSinkSink.write.Goals as goal

pub returns-then-eq-clause-cut : goal.returns-then-eq-clause-cut
returns-then-eq-clause-cut c = search rules

pub returns-clause-piece : goal.returns-clause-piece
returns-clause-piece c = rw (← c.self.view_is) (omega arith)

pub unwrap-requires : goal.unwrap-requires
unwrap-requires c = search rules

pub invariant_of-self-2 : goal.invariant_of-self-2
invariant_of-self-2 c = search rules

pub returns-clause-fitted : goal.returns-clause-fitted
returns-clause-fitted c = search rules
