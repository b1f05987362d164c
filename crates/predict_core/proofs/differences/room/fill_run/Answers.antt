use Rattle.std.proofs.Common.{◌≡◌, ◌+◌, ◌-◌, ◌*◌, ◌<◌, ◌++◌, ℕ, pos, length, set, replicate, arith, ap, ◌∙◌}
use Rattle.sample_prediction.specs.Differences.{difference_vector, directional_differences}
use Rattle.predict_core.specs.Rooms.{components_at, lower_differences, quads_of}
use Rattle.predict_core.proofs.Quads.{components_none, one_quad, reduced_components, full_components}
use Rattle.sample_prediction.proofs.Directions.{full_count}
use Rattle.predict_core.proofs.Told.{room_told}
use Rattle.predict_core.proofs.differences.room.fill_run.Goals as goal

pub returns-then-settings : goal.returns-then-settings
returns-then-settings g c =
    let s = c.args.settings.now in let sums = rw (c.is_column-column.ensures, c.y.ensures) at c.fill_own.ensures.sums in
    let own = rw (c.is_column-column.ensures, c.y.ensures) at c.fill_own.ensures.own in
    let vectors : (i : ℕ) → i < c.args.run.now.count → 0 < c.args.run.now.y + (c.args.run.now.x + i) → components_at (quads_of s.count) c.fill_spectral.new.quads i
    ≡ difference_vector s.predictor c.args.run.now.image s.band c.args.run.now.y (c.args.run.now.x + i) ++ replicate (4 * quads_of s.count - s.count) (pos 0) =
    λ i l h. reduced_components s.predictor c.args.run.now.image s.band c.args.run.now.y (c.args.run.now.x + i) s.count _ c.if-settings.true s.count_is
    (c.fill_spectral.ensures i l h ∙ ap (λ us. us
    ++ lower_differences s.predictor c.args.run.now.image s.band c.args.run.now.y (c.args.run.now.x + i) 1 (4 * (quads_of s.count - 0))) (components_none c.args.quads.now i)) in
    room_told s.predictor _ s.band _ _ _ s.count _ _ _ _ _ c.prove_is_row.ensures.cube c.requires.run.place c.requires.run.inside
    (rw c.requires.columns s.wide) c.requires.run.few c.fill_run_lines.ensures sums own vectors

pub returns-else-settings : goal.returns-else-settings
returns-else-settings g c =
    let s = c.args.settings.now in let three = s.count_is ∙ full_count s.predictor s.band c.if-settings.false in
    let some : 0 < length c.args.quads.now = (let enough = c.requires.enough in let long = c.told-quads in omega (arith, three, enough, long)) in
    let head : (i : ℕ) → i < c.args.run.now.count → 0 < c.args.run.now.y + (c.args.run.now.x + i)
    → components_at 1 (set c.args.quads.now 0 c.fill_first.new.quad) i ≡ directional_differences s.predictor c.args.run.now.image s.band c.args.run.now.y (c.args.run.now.x + i)
    ++ lower_differences s.predictor c.args.run.now.image s.band c.args.run.now.y (c.args.run.now.x + i) 1 1 =
    λ i l h. one_quad c.args.quads.now c.fill_first.new.quad i some ∙ c.fill_first.ensures.quad i l h in
    let vectors : (i : ℕ) → i < c.args.run.now.count → 0 < c.args.run.now.y + (c.args.run.now.x + i) → components_at (quads_of s.count) c.fill_spectral-else-settings.new.quads i
    ≡ difference_vector s.predictor c.args.run.now.image s.band c.args.run.now.y (c.args.run.now.x + i) ++ replicate (4 * quads_of s.count - s.count) (pos 0) =
    λ i l h. full_components s.predictor c.args.run.now.image s.band c.args.run.now.y (c.args.run.now.x + i) s.count _ c.if-settings.false s.count_is
    (c.fill_spectral-else-settings.ensures i l h
    ∙ ap (λ us. us ++ lower_differences s.predictor c.args.run.now.image s.band c.args.run.now.y (c.args.run.now.x + i) 2 (4 * (quads_of s.count - 1))) (head i l h)) in
    room_told s.predictor _ s.band _ _ _ s.count _ _ _ _ _ c.prove_is_row.ensures.cube c.requires.run.place c.requires.run.inside
    (rw c.requires.columns s.wide) c.requires.run.few c.fill_run_lines.ensures c.fill_first.ensures.sums c.fill_first.ensures.own vectors
