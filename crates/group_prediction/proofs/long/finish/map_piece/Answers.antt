use Rattle.std.proofs.Common.{◌≡◌, ◌+◌, ◌^◌, ◌<◌, ◌≤◌, ℕ, pos, ◌≤ℤ◌, length, take, get_or, List, arith, pow_mono}
use Rattle.cube_core.specs.Kind.{smin, smax}
use Rattle.sample_prediction.specs.LocalSum.{local_sum}
use Rattle.sample_prediction.proofs.Spans.{span}
use Rattle.predict_core.proofs.Ranges.{sum_within}
use Rattle.predict_core.proofs.Told.{offset_sum_most}
use Rattle.group_prediction.proofs.long.finish.map_piece.Goals as goal
use Rattle.group_prediction.proofs.long.finish.map_piece.Goals.{After-prove_is_row}

sum_in : (c : After-prove_is_row) (i : ℕ) → i < c.args.run.now.count → 0 < c.args.run.now.y + (c.args.run.now.x + i)
    → (pos 0 ≤ℤ get_or c.args.sums.now i (pos 0)) × (get_or c.args.sums.now i (pos 0) ≤ℤ pos 262140)
sum_in c i l h =
    let s = c.args.settings.now in let cube = c.args.run.now.image in let bits = c.prove_is_row.ensures.cube.bits in
    let power : 2 ^ cube.kind.bits ≤ 2 ^ 16 = pow_mono bits.1 in let inside = c.requires.run.inside in
    offset_sum_most (smin cube.kind) (smax cube.kind) (local_sum s.predictor cube s.band c.args.run.now.y (c.args.run.now.x + i)) (get_or c.args.sums.now i (pos 0)) (2 ^ cube.kind.bits)
    (span cube.kind bits) power
    (sum_within s.predictor cube c.prove_is_row.ensures.cube c.args.run.now.y (c.args.run.now.x + i) h (rw c.requires.columns s.wide) s.band
    (record { band = c.requires.run.place.band; row = c.requires.run.place.row; column = omega (arith, inside, l) }))
    (c.requires.sums i l h)

pub map_run-requires-clause-sum_least : goal.map_run-requires-clause-sum_least
map_run-requires-clause-sum_least c i l h = (sum_in (goal.at.map_run-requires-clause-sum_least c).After-prove_is_row i l h).0

pub map_run-requires-clause-sum_most : goal.map_run-requires-clause-sum_most
map_run-requires-clause-sum_most c i l h = (sum_in (goal.at.map_run-requires-clause-sum_most c).After-prove_is_row i l h).1
