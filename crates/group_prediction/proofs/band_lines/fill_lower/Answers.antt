use Rattle.std.proofs.Common.{◌<◌, ◌≤◌, ◌+◌, ◌-◌, pos, get_or, length, sym, ap, ◌∙◌, arith}
use Rattle.sample_prediction.specs.Differences.{central_difference}
use Rattle.sample_prediction.specs.Predictor.{previous_bands}
use Rattle.predict_core.proofs.Quads.{lower_is, lower_none}
use Rattle.group_prediction.proofs.band_lines.fill_lower.Goals as goal

pub returns-then-below-settings : goal.returns-then-below-settings
returns-then-below-settings c i l h =
    let s = c.args.settings.now in let within : i < 64 = (let f = c.requires.run.few in omega (arith, l, f)) in
    c.clear_line.ensures i within ∙ sym (lower_none s.predictor c.args.run.now.image s.band c.args.run.now.y (c.args.run.now.x + i) c.args.below
    (let n = s.near_is in let t = c.if-below-settings.true in omega (arith, n, t)))

pub returns-then-lines-z : goal.returns-then-lines-z
returns-then-lines-z c i l h =
    let s = c.args.settings.now in
    let near : c.args.below ≤ previous_bands s.predictor s.band = (let n = s.near_is in let t = c.if-below-settings.false in omega (arith, n, t)) in
    let there = c.requires.before (length c.args.before.now - c.args.below) (let t = c.if-below-before.true in let o = c.requires.below_in in omega (arith, t, o)) i l h in
    ap (λ xs. get_or xs i (pos 0)) c.copy_line.ensures ∙ there
    ∙ ap (λ z. central_difference s.predictor c.args.run.now.image z c.args.run.now.y (c.args.run.now.x + i)) c.if-lines-z.true
    ∙ sym (lower_is s.predictor c.args.run.now.image s.band c.args.run.now.y (c.args.run.now.x + i) c.args.below near)

pub returns : goal.returns
returns c i l h =
    let s = c.args.settings.now in
    let near : c.args.below ≤ previous_bands s.predictor s.band = (let n = s.near_is in let t = c.if-below-settings.false in omega (arith, n, t)) in
    c.fill_central.ensures.own_are i l h ∙ sym (lower_is s.predictor c.args.run.now.image s.band c.args.run.now.y (c.args.run.now.x + i) c.args.below near)
