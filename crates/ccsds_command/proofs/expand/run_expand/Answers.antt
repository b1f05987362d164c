use Rattle.std.proofs.Common.{◌≡◌, ◌⊎◌, inl, inr, refl, ap}
use Rattle.std.proofs.lemmas.Result.{err_from_is_err_and, on_ok_weaker, IfErr-weaker}
use Rattle.cube_core.specs.Layout.{raw_bytes}
use Rattle.command_devices.specs.Devices.{Took}
use Rattle.ccsds_command.specs.Expand.{HasRaw, Expands, IsExpandFault}
use Rattle.ccsds_command.proofs.Runs.{gained}
use Rattle.ccsds_command.proofs.expand.run_expand.Goals as goal

pub returns-clause-expanded : goal.returns-clause-expanded
unfolding Expands
returns-clause-expanded g c =
    gained c.write_raw.result (HasRaw c.args.layout.now (g.S.Source.left c.args.source.now)) (Took (g.K.Sink.taken c.args.sink.now)
    (g.K.Sink.taken c.write_raw.new.sink)) (raw_bytes c.in_ok-cube.cube c.args.layout.now)
    (c.in_ok-cube.cube, c.in_ok-cube.ensures.cube, c.in_ok-cube.ensures.fits, refl) c.write_raw.ensures.whole

pub returns-clause-refused : goal.returns-clause-refused
unfolding IsExpandFault
returns-clause-refused g c =
    IfErr-weaker c.write_raw.result _ _ (λ e why. elim why [
      | inl none ↦ inl (inl (inl (none.0, c.in_ok-cube.ensures.worked)), ap g.K.Sink.taken none.1)
      | inr cut ↦ inr (
        raw_bytes c.in_ok-cube.cube c.args.layout.now,
        (c.in_ok-cube.cube, c.in_ok-cube.ensures.cube, c.in_ok-cube.ensures.fits, refl),
        cut,
      )
    ]) c.write_raw.ensures.refused

pub returns-clause-unwritten : goal.returns-clause-unwritten
returns-clause-unwritten g c =
    IfErr-weaker c.write_raw.result _ _ (λ e why. elim why [ inl none ↦ inr none.1 | inr cut ↦ inl (cut.0, cut.1) ]) c.write_raw.ensures.refused

pub returns-clause-unfilled : goal.returns-clause-unfilled
returns-clause-unfilled g c = IfErr-weaker c.write_raw.result _ _ (λ e why memory. c.in_ok-cube.ensures.short) c.write_raw.ensures.refused

pub returns-in_err-cube-clause-refused : goal.returns-in_err-cube-clause-refused
unfolding IsExpandFault
returns-in_err-cube-clause-refused g c =
    let p = err_from_is_err_and c.from_residual.result c.from_residual.ensures.1 in
    rw (p.1, p.2) (inl (c.in_err-cube.ensures.refused, refl))

pub returns-clause-worked : goal.returns-clause-worked
returns-clause-worked g c = on_ok_weaker c.write_raw.result (λ h. (c.in_ok-cube.ensures.worked, h.0, h.1)) c.write_raw.ensures.worked
