use Rattle.std.proofs.Common.{◌≡◌, ◌+◌, ◌-◌, ◌*◌, sym, ap, ◌∙◌, subst, arith}
use Rattle.predict_core.specs.Steps.{AreSteps}
use Rattle.sample_prediction.specs.Weights.{step_exponent}
use Rattle.predict_core.proofs.inverse.chain.next_stretch.Goals as goal

pub returns-clause-steps : goal.returns-clause-steps
returns-clause-steps c k le lt =
    let s = c.args.settings.now in
    let e : c.args.y * s.columns + (c.args.x + c.args.i) + (k - c.args.i) ≡ c.args.y * s.columns + (c.args.x + k) = omega (arith, le) in
    let alike = c.places_alike-alike.ensures.alike s.range.bits (k - c.args.i) (omega (arith, le, lt)) in
    subst (AreSteps c.shift_at.result s.range.bits) (sym alike ∙ ap (step_exponent s.predictor s.columns s.range.bits) e) c.shift_at.ensures
