use Rattle.command_devices.proofs.cut.CutSink.taken.Goals as goal

pub returns : goal.returns
returns c = search
