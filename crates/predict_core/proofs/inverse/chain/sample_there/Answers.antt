use Rattle.std.proofs.Common.{◌≡◌, ◌≤◌, ◌-◌, ℤ, pos, ◌+ℤ◌, ◌-ℤ◌, ◌*ℤ◌, refl, sym, ap, ◌∙◌, take, ◌++◌, replicate, SFits, w32}
use Rattle.std.proofs.Common.{to_z-of_z, rules, arith}
use Rattle.std.proofs.lemmas.Int.{ints}
use Rattle.cube_core.specs.Kind.{SampleKind, smin}
use Rattle.sample_prediction.specs.Chain.{scaled_by_difference}
use Rattle.sample_prediction.specs.Differences.{difference_vector}
use Rattle.sample_prediction.specs.LocalSum.{local_sum}
use Rattle.sample_prediction.specs.Prediction.{scaled_by}
use Rattle.predict_core.proofs.Chains.{scaled_from_room, moved_from_room}
use Rattle.predict_core.proofs.Inverting.{scaled_put, moved_put}
use Rattle.sample_prediction.proofs.Moves.{within_most, within_room}
use Rattle.sample_prediction.proofs.Padding.{whole_sum}
use Rattle.predict_core.proofs.inverse.chain.sample_there.Given as given
use Rattle.predict_core.proofs.inverse.chain.sample_there.Goals as goal
use Rattle.predict_core.proofs.inverse.chain.sample_there.Goals.{Start, After-update_by}

-- the range has as many bits as the image's samples
same_bits : (g : given.Over) (c : Start g) → c.args.settings.now.range.bits ≡ c.args.rows.now.image.kind.bits
same_bits g c = c.args.settings.now.range.bits_is ∙ ap (λ (k : SampleKind). k.bits) (sym c.requires.kind)

pub predicted_difference-part-requires-clause-differences_in : goal.predicted_difference-part-requires-clause-differences_in
predicted_difference-part-requires-clause-differences_in g c =
    let s = c.args.settings.now in
    let bits : s.range.bits ≤ 16 = rw s.range.bits_is s.range.lawful.1 in
    within_most s.range.bits c.local_at-local.result.differences bits c.local_at-local.ensures.bound

pub predicted_difference-part-requires-clause-sum_in : goal.predicted_difference-part-requires-clause-sum_in
predicted_difference-part-requires-clause-sum_in g c =
    let r = c.args.settings.now.range in let b = c.local_at-local.ensures.sum_in in let low = r.low in
    rw (whole_sum r.smin c.local_at-local.result.sum low b) (omega (arith, ints, low.0, b), omega (arith, ints, low.1, b))

pub update_by-requires-clause-differences_in : goal.update_by-requires-clause-differences_in
update_by-requires-clause-differences_in g c =
    let s = c.args.settings.now in
    let bits = same_bits g (goal.at.update_by-requires-clause-differences_in g c).Start in
    within_room s.range.bits c.args.shift.left c.local_at-local.result.differences (rw bits c.requires.steps.room) c.local_at-local.ensures.bound

module _ (g : given.Over) (c : After-update_by g) where
  filled : c.local_at-local.result.differences ≡ difference_vector c.args.settings.now.predictor c.args.rows.now.image c.args.settings.now.band c.args.y c.args.x
      ++ replicate (18 - c.args.settings.now.count) (pos 0)
  filled = rw (← c.args.settings.now.count_is) at c.local_at-local.ensures.differences

  abbrev sum : ℤ
  sum = local_sum c.args.settings.now.predictor c.args.rows.now.image c.args.settings.now.band c.args.y c.args.x

  -- the local sum, as the code computes it
  sum_is : pos 4 *ℤ c.args.settings.now.range.smin +ℤ pos c.local_at-local.result.sum ≡ sum
  sum_is =
      let low : smin c.args.rows.now.image.kind ≡ c.args.settings.now.range.smin = ap smin c.requires.kind ∙ sym c.args.settings.now.range.smin_is in
      sym (rw low at c.local_at-local.ensures.sum)

  -- the scaled prediction comes from the predicted difference
  by_difference : scaled_by c.args.settings.now.predictor c.args.rows.now.image.kind sum (take g.row.N c.args.weights.now) (take g.row.N c.local_at-local.result.differences)
      ≡ scaled_by_difference c.args.rows.now.image.kind c.predicted_difference-part.result sum
  by_difference =
      let r = c.args.settings.now.range in
      rw (← sum_is, c.requires.kind)
      (rw (whole_sum r.smin c.local_at-local.result.sum r.low c.local_at-local.ensures.sum_in) at c.predicted_difference-part.ensures.scaled)

pub returns-clause-inverse : goal.returns-clause-inverse
returns-clause-inverse g c =
    let d = (goal.at.returns-clause-inverse g c).After-update_by in let s = c.args.settings.now in
    let fits : SFits w32 c.sample_by_part-found.result.0 = search rules in let part_fits : SFits w32 c.predicted_difference-part.result = search rules in
    let scaled = scaled_from_room s.predictor c.args.rows.now.image s.band c.args.y c.args.x s.count g.row.N c.args.weights.now c.local_at-local.result.differences
    c.prove_is_row.ensures.cube c.requires.place s.count_is c.requires.enough c.requires.few (filled g d) _ (by_difference g d) in
    let e = rw (← c.requires.kind, ← c.local_at-local.ensures.sum, ← scaled) at (simp (to_z-of_z part_fits) at c.sample_by_part-found.ensures.inverse) in
    let same = scaled_put c.args.rows.now.image s.band c.args.y c.args.x c.sample_by_part-found.result.0 c.requires.place c.prove_is_row.ensures.cube.whole
    s.predictor (rw c.requires.columns s.wide) c.requires.later (take s.count c.args.weights.now) in rw (to_z-of_z fits, ← same) e

pub returns-clause-weights : goal.returns-clause-weights
returns-clause-weights g c =
    let d = (goal.at.returns-clause-weights g c).After-update_by in let s = c.args.settings.now in let found = c.sample_by_part-found.result.0 in
    let fits : SFits w32 c.sample_by_part-found.result.0 = search rules in let part_fits : SFits w32 c.predicted_difference-part.result = search rules in
    let mask_fits : SFits w32 c.sample_by_part-found.result.1 = search rules in
    let sign_mask = rw (← s.range.smin_is) at (simp (to_z-of_z part_fits) at c.sample_by_part-found.ensures.sign) in
    let moved = rw sign_mask at (simp (to_z-of_z mask_fits) at c.update_by.ensures.value) in
    let m = moved_from_room s.predictor c.args.rows.now.image s.band c.args.y c.args.x s.count g.row.N c.args.weights.now c.local_at-local.result.differences
    c.prove_is_row.ensures.cube c.requires.place s.count_is c.requires.enough c.requires.few (filled g d) _ (by_difference g d)
    c.update_by.new.weights found _ _ (rw (← c.requires.kind) at c.sample_by_part-found.ensures.range)
    (ap (λ v. pos 4 *ℤ found -ℤ v) (sum_is g d)) c.requires.steps.is moved in
    rw (to_z-of_z fits)
    (moved_put c.args.rows.now.image s.band c.args.y c.args.x found c.requires.place c.prove_is_row.ensures.cube.whole s.predictor
    (rw c.requires.columns s.wide) _ (take s.count c.args.weights.now) _ _ c.requires.later refl refl m)

pub returns-clause-bound : goal.returns-clause-bound
returns-clause-bound g c = c.update_by.ensures.bound

pub returns-clause-range : goal.returns-clause-range
returns-clause-range g c =
    let fits : SFits w32 c.sample_by_part-found.result.0 = search rules in rw (to_z-of_z fits, c.requires.kind) c.sample_by_part-found.ensures.range

pub update_by-requires-clause-sign_mask_in : goal.update_by-requires-clause-sign_mask_in
update_by-requires-clause-sign_mask_in g c =
    let fits : SFits w32 c.sample_by_part-found.result.1 = search rules in let found = c.sample_by_part-found.ensures in
    rw (to_z-of_z fits) (found.least, found.most)
