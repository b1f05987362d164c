use Rattle.std.proofs.Common.{◌+◌, ◌≤◌, pos, negsuc, ◌-ℤ◌, ◌<ℤ◌, SFits, to_z-of_z, w32, arith, rules}
use Rattle.std.proofs.lemmas.Int.{ints}
use Rattle.sample_prediction.proofs.Moves.{within_room}
use Rattle.sample_prediction.proofs.weights.update_first.Goals as goal

pub update_by-requires-clause-differences_in : goal.update_by-requires-clause-differences_in
update_by-requires-clause-differences_in g c =
    let under : c.args.exponent <ℤ pos 0 = search (rules, ints) in let fits : SFits w32 (negsuc 0 -ℤ c.args.exponent) = search (rules, ints) in
    let up = simp (to_z-of_z c.ranges.exponent, to_z-of_z fits) at c.left_shift-shift.ensures.left in
    let room : c.args.bits + c.left_shift-shift.result.left ≤ 24 = omega (arith, ints, up) in
    within_room c.args.bits c.left_shift-shift.result.left c.args.differences.now room c.requires.differences_in

pub update_by-requires-else-exponent-lt0-clause-differences_in : goal.update_by-requires-else-exponent-lt0-clause-differences_in
update_by-requires-else-exponent-lt0-clause-differences_in g c =
    let room : c.args.bits + c.right_shift-shift.result.left ≤ 24 = omega (arith, c.right_shift-shift.ensures.left) in
    within_room c.args.bits c.right_shift-shift.result.left c.args.differences.now room c.requires.differences_in
