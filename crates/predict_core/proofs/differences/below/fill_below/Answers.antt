use Rattle.std.proofs.Common.{◌+◌, ◌≤◌, arith, sym, ◌∙◌}
use Rattle.sample_prediction.specs.Predictor.{previous_bands}
use Rattle.predict_core.proofs.Quads.{lower_is, lower_none, empty_difference}
use Rattle.predict_core.proofs.differences.below.fill_below.Goals as goal

pub returns-then-below-settings : goal.returns-then-below-settings
returns-then-below-settings c = λ i l h.
    let s = c.args.settings.now in let near : c.args.below ≤ previous_bands s.predictor s.band = (let n = s.near_is in omega (arith, n)) in
    sym (lower_is s.predictor c.args.run.now.image s.band c.args.run.now.y (c.args.run.now.x + i) c.args.below near ∙ c.fill_run_lines.ensures.central i l h)

pub returns-else-below-settings : goal.returns-else-below-settings
returns-else-below-settings c = λ i l h.
    let s = c.args.settings.now in empty_difference _ c.args.lines.now.current c.args.lines.now.above i c.requires.current c.requires.above
    ∙ sym (lower_none s.predictor c.args.run.now.image s.band c.args.run.now.y (c.args.run.now.x + i) c.args.below (let n = s.near_is in omega (arith, n)))
