use Rattle.std.proofs.Common.{arith}
use Rattle.command_devices.proofs.Streams.{consumed_gave, at_end}
use Rattle.command_devices.proofs.stream.ReaderSourceSource.read.Goals as goal

pub returns-in-Ok-clause-given : goal.returns-in-Ok-clause-given
returns-in-Ok-clause-given g c = rw (← c.self.view_is) (consumed_gave _ _ _ c.in-Ok.ensures.bytes.0)

pub returns-in-Ok-clause-end : goal.returns-in-Ok-clause-end
returns-in-Ok-clause-end g c e some = at_end _ (c.in-Ok.ensures.bytes.1 (cc) (omega (arith, some, c.read.auto.buffer)))

pub returns-in-Ok-clause-worked : goal.returns-in-Ok-clause-worked
returns-in-Ok-clause-worked g c i = (c.self.view_is i).failures

pub returns-in-Ok-clause-asked : goal.returns-in-Ok-clause-asked
returns-in-Ok-clause-asked g c = rw (← c.self.view_is) c.in-Ok.ensures.gave

pub returns-in-Ok-clause-refused : goal.returns-in-Ok-clause-refused
returns-in-Ok-clause-refused g c = tt

pub returns-in-Err-clause-asked : goal.returns-in-Err-clause-asked
returns-in-Err-clause-asked g c = tt

pub returns-in-Err-clause-refused : goal.returns-in-Err-clause-refused
returns-in-Err-clause-refused g c = rw (← c.self.view_is) c.in-Err.ensures.failed
