use Rattle.std.proofs.Common.{◌+◌, ◌≤◌, arith, ◌∙◌}
use Rattle.sample_prediction.specs.Predictor.{previous_bands}
use Rattle.predict_core.proofs.Quads.{lower_two}
use Rattle.predict_core.proofs.differences.below.fill_last_two.Goals as goal

pub returns : goal.returns
returns c = λ i l h.
    let s = c.args.settings.now in let a = c.fill_below.ensures i l h in let b = c.fill_below-2.ensures i l h in
    let last : previous_bands s.predictor s.band ≤ c.args.nearest + 1 = (let n = s.near_is in let m = c.requires.last in omega (arith, n, m)) in
    rw (c.is_column-column.ensures, c.y.ensures, a, b) at (c.fill_two.ensures i (omega arith))
    ∙ lower_two s.predictor c.args.run.now.image s.band c.args.run.now.y (c.args.run.now.x + i) c.args.nearest last
