use Rattle.command_devices.proofs.stream.WriterSink.new.Goals as goal

pub returns : goal.returns
returns g c = search
