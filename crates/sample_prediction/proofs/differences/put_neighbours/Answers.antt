use Rattle.std.proofs.Common.{◌≡◌, ◌-◌, SFits, w32, to_z-of_z, rules, ap, sym, ◌∙◌, arith, inl, inr}
use Rattle.std.proofs.lemmas.Bool.{cases_eq}
use Rattle.cube_core.specs.Kind.{smin}
use Rattle.cube_core.specs.Image.{sample_at}
use Rattle.sample_prediction.specs.Differences.{difference_from}
use Rattle.sample_prediction.proofs.Directions.{directional_left, directional_inside, difference_is, west_left, west_inside}
use Rattle.sample_prediction.proofs.differences.put_neighbours.Goals as goal

pub returns-clause-value : goal.returns-clause-value
returns-clause-value c =
    let north_fits : SFits w32 c.difference_of-north.result = search rules in let west_fits : SFits w32 c.difference_of-west.result = search rules in
    let north_west_fits : SFits w32 c.difference_of-north_west.result = search rules in
    let above = rw c.requires.row at c.row_above-above.ensures.samples in let up = (above c.args.x c.requires.place.column).1 in
    let corner = (above (c.args.x - 1) (omega (arith, c.requires.place.column))).1 in
    let north_west_is = rw c.saturating_sub.ensures at c.difference_of-north_west.ensures.value in
    let written = simp (to_z-of_z north_fits, to_z-of_z west_fits, to_z-of_z north_west_fits) at c.put_directions.ensures.value in
    let north : difference_from c.args.predictor.now c.args.rows.now.image c.args.z c.args.y c.args.x (sample_at c.args.rows.now.image c.args.z (c.args.y - 1) c.args.x)
    ≡ c.difference_of-north.result =
    difference_is (smin c.args.rows.now.image.kind) _ _ _ _ c.args.sum up c.requires.sum_is c.difference_of-north.ensures.value in
    let north_west : difference_from c.args.predictor.now c.args.rows.now.image c.args.z c.args.y c.args.x
    (sample_at c.args.rows.now.image c.args.z (c.args.y - 1) (c.args.x - 1)) ≡ c.difference_of-north_west.result =
    difference_is (smin c.args.rows.now.image.kind) _ _ _ _ c.args.sum corner c.requires.sum_is north_west_is in
    elim (cases_eq c.args.x 0) [
      | inl e ↦
          (let west : difference_from _ _ _ _ _ (sample_at _ _ (c.args.y - 1) _) ≡ c.difference_of-west.result =
          difference_is (smin c.args.rows.now.image.kind) _ _ _ _ _ (west_left _ _ _ _ _ e c.requires.west) c.requires.sum_is c.difference_of-west.ensures.value in
          let column : c.args.x - 1 ≡ c.args.x = omega (arith, e) in
          let corner_is = ap (λ k. difference_from c.args.predictor.now c.args.rows.now.image c.args.z c.args.y c.args.x
          (sample_at c.args.rows.now.image c.args.z (c.args.y - 1) k)) (sym column) ∙ north_west in
          let west_same : c.difference_of-north.result ≡ c.difference_of-west.result = sym north ∙ west in
          let corner_same : c.difference_of-north.result ≡ c.difference_of-north_west.result = sym north ∙ corner_is in
          rw (directional_left c.args.predictor.now c.args.rows.now.image c.args.z c.args.y c.args.x (omega arith) e, north)
          (rw (← west_same, ← corner_same) at written))
      | inr n ↦
          (let west : difference_from _ _ _ _ _ (sample_at _ _ _ (c.args.x - 1)) ≡ c.difference_of-west.result =
          difference_is (smin c.args.rows.now.image.kind) _ _ _ _ _ (west_inside _ _ _ _ _ n c.requires.west) c.requires.sum_is c.difference_of-west.ensures.value in
          rw (directional_inside c.args.predictor.now c.args.rows.now.image c.args.z c.args.y c.args.x (omega arith) n, north, west, north_west) written)
    ]
