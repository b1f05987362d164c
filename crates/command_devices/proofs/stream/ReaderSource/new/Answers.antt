use Rattle.command_devices.proofs.stream.ReaderSource.new.Goals as goal

pub returns : goal.returns
returns g c = search
