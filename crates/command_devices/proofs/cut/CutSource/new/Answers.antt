use Rattle.command_devices.proofs.cut.CutSource.new.Goals as goal

pub returns : goal.returns
returns c = search
