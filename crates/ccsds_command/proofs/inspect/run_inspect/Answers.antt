use Rattle.command_devices.specs.Devices.{Took}
use Rattle.ccsds_command.specs.Inspect.{HasLines, Inspects, IsInspectFault}
use Rattle.command_devices.specs.Writing.{IsCutShort}
use Rattle.ccsds_command.proofs.Runs.{gained, cut_short}
use Rattle.ccsds_command.proofs.inspect.run_inspect.Goals as goal

pub returns-clause-inspected : goal.returns-clause-inspected
unfolding Inspects
returns-clause-inspected g c =
    gained c.write_all.result (HasLines (g.S.Source.left c.args.source.now)) (Took (g.K.Sink.taken c.args.sink.now) (g.K.Sink.taken c.write_all.new.sink))
    c.in_ok-text.text.items c.in_ok-text.ensures.lines (rw c.deref.ensures.value at c.write_all.ensures.whole)

pub returns-clause-refused : goal.returns-clause-refused
unfolding IsInspectFault
returns-clause-refused g c =
    cut_short c.write_all.result _ (HasLines (g.S.Source.left c.args.source.now))
    (IsCutShort (g.K.Sink.taken c.args.sink.now) (g.K.Sink.taken c.write_all.new.sink) (g.K.Sink.failures c.args.sink.now)
    (g.K.Sink.failures c.write_all.new.sink) (g.K.Sink.stalls c.args.sink.now) (g.K.Sink.stalls c.write_all.new.sink))
    c.in_ok-text.text.items c.in_ok-text.ensures.lines (rw c.deref.ensures.value at c.write_all.ensures.cut)
