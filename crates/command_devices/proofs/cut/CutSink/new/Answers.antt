use Rattle.std.proofs.Common.{rules}
use Rattle.command_devices.proofs.cut.CutSink.new.Goals as goal

pub returns : goal.returns
returns c = search rules
