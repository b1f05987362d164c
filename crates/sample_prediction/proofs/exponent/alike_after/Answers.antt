use Rattle.std.proofs.Common.{◌+◌, ◌/◌, ◌^◌, ◌≤◌, ◌≤ℤ◌, ◌+ℤ◌, ℕ, pos, arith, pow_pos, le_trans, rules}
use Rattle.std.proofs.lemmas.Int.{ints}
use Rattle.std.proofs.lemmas.Nat.{le-div}
use Rattle.std.proofs.Math.Nat.{div-mul-le_self}
use Rattle.sample_prediction.proofs.Intervals.{alike_at_most}
use Rattle.sample_prediction.proofs.exponent.alike_after.Goals as goal

pub returns-then-predictor-intervals-clause-alike : goal.returns-then-predictor-intervals-clause-alike
returns-then-predictor-intervals-clause-alike c k l =
    let p = c.args.predictor.now in let d : ℕ = 2 ^ p.interval_log in let least = c.requires.lawful.least in
    let greatest = c.requires.lawful.greatest in let order = c.requires.lawful.order in
    let value = c.intervals_in-intervals.ensures.value in let small = c.intervals_in-intervals.ensures.bound in
    let top : p.vmax ≤ℤ (p.vmin +ℤ pos c.intervals_in-intervals.result) = omega (arith, ints, least, greatest, order, small) in
    let most : p.vmax ≤ℤ (p.vmin +ℤ pos (c.args.t / 2 ^ p.interval_log)) = rw value at top in
    let grows : c.args.t / 2 ^ p.interval_log ≤ (c.args.t + k) / 2 ^ p.interval_log =
    le-div (c.args.t / 2 ^ p.interval_log) (c.args.t + k) (2 ^ p.interval_log) (pow_pos p.interval_log)
    (le_trans (div-mul-le_self c.args.t (2 ^ p.interval_log)) (omega arith)) in
    alike_at_most p.vmin p.vmax (c.args.t / 2 ^ p.interval_log) ((c.args.t + k) / 2 ^ p.interval_log) order most grows

pub returns-else-predictor-intervals-clause-alike : goal.returns-else-predictor-intervals-clause-alike
returns-else-predictor-intervals-clause-alike c = search rules
