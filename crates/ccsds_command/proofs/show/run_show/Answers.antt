use Rattle.command_devices.specs.Devices.{Took}
use Rattle.std.proofs.Common.{inl, refl, rules}
use Rattle.std.proofs.lemmas.Result.{err_from_is_err_and, on_ok_weaker}
use Rattle.command_devices.specs.Writing.{IsCutShort}
use Rattle.ccsds_command.specs.Show.{IsShown, IsShowFault, Shows}
use Rattle.ccsds_command.proofs.Runs.{cut_short, gained}
use Rattle.ccsds_command.proofs.show.run_show.Goals as goal

pub returns-in_err-text-clause-refused : goal.returns-in_err-text-clause-refused
unfolding IsShowFault
returns-in_err-text-clause-refused g c =
    let p = err_from_is_err_and c.from_residual.result c.from_residual.ensures.1 in
    rw (p.1, p.2) (inl (c.in_err-text.ensures.refused, refl))

pub returns-clause-refused : goal.returns-clause-refused
unfolding IsShowFault
returns-clause-refused g c =
    cut_short c.write_all.result _ (IsShown (g.S.Source.left c.args.source.now))
    (IsCutShort (g.K.Sink.taken c.args.sink.now) (g.K.Sink.taken c.write_all.new.sink) (g.K.Sink.failures c.args.sink.now)
    (g.K.Sink.failures c.write_all.new.sink) (g.K.Sink.stalls c.args.sink.now) (g.K.Sink.stalls c.write_all.new.sink))
    c.in_ok-text.text.items c.in_ok-text.ensures.shown (rw c.deref.ensures.value at c.write_all.ensures.cut)

pub returns-in_err-text-clause-unwritten : goal.returns-in_err-text-clause-unwritten
returns-in_err-text-clause-unwritten g c = search rules

pub returns-clause-shown : goal.returns-clause-shown
unfolding Shows
returns-clause-shown g c =
    gained c.write_all.result (IsShown (g.S.Source.left c.args.source.now)) (Took (g.K.Sink.taken c.args.sink.now) (g.K.Sink.taken c.write_all.new.sink))
    c.in_ok-text.text.items c.in_ok-text.ensures.shown (rw c.deref.ensures.value at c.write_all.ensures.whole)

pub returns-clause-worked : goal.returns-clause-worked
returns-clause-worked g c = on_ok_weaker c.write_all.result (λ h. (c.in_ok-text.ensures.worked, h.0, h.1)) c.write_all.ensures.worked
