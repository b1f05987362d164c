use Rattle.std.proofs.Common.{int_lt, ◌+◌, ◌<◌, ◌^◌, le_trans, ◌≤◌, unsigned_abs, ℤ, ℕ, List, pos, length, get_or, SFits, to_z-of_z, w32, arith}
use Rattle.std.proofs.Common.{refl, rules, length-set}
use Rattle.std.proofs.lemmas.Int.{ints}
use Rattle.sample_prediction.proofs.Products.{step_kept, step_bound, SFits-small}
use Rattle.sample_prediction.proofs.Moves.{room_word, SFits-26, limit_within}
use Rattle.sample_prediction.proofs.Prefixes.{update_none, update_next}
use Rattle.sample_prediction.proofs.weights.update_by.Goals as goal

pub loop-i-init : goal.loop-i-init
loop-i-init g c = rw (to_z-of_z c.ranges.sign_mask) (record {
  done = update_none c.args.omega c.args.shift.exponent (int_lt c.args.sign_mask (pos 0)) c.args.weights.now c.args.differences.now;
  kept = refl;
  bound = c.requires.weights_in;
  long = c.told-weights;
})

pub moved-requires-clause-weight_in : goal.moved-requires-clause-weight_in
moved-requires-clause-weight_in g c =
    let b : unsigned_abs (get_or c.loop-i.weights c.loop-i.i (pos 0)) ≤ 2 ^ 21 =
    le_trans (c.loop-i.invariant.bound c.loop-i.i (omega arith)) (limit_within c.args.omega c.requires.omega_in) in
    omega (arith, ints, b)

pub loop-i-preserved : goal.loop-i-preserved
loop-i-preserved g c =
    let i : ℕ = c.loop-i.i in let now : List ℤ = c.loop-i.weights in let old : List ℤ = c.args.weights.now in
    let us : List ℤ = c.args.differences.now in let now_long : i < length now = omega arith in
    let old_long : i < length old = omega arith in let us_long : i < length us = omega arith in let fits : SFits w32 c.moved.result = search rules in
    let weight_fits : SFits w32 (get_or now i (pos 0)) =
    SFits-small (get_or now i (pos 0)) (le_trans (c.loop-i.invariant.bound i now_long) (limit_within c.args.omega c.requires.omega_in)) in
    let difference_fits : SFits w32 (get_or us i (pos 0)) =
    (let r = room_word c.args.shift.left in let u = c.requires.differences_in i us_long in SFits-26 (get_or us i (pos 0)) (omega (arith, r, u))) in
    let e = simp (to_z-of_z c.ranges.sign_mask, to_z-of_z weight_fits, to_z-of_z difference_fits) at c.moved.ensures.value in
    let done = rw (to_z-of_z c.ranges.sign_mask) at c.loop-i.invariant.done in
    rw (to_z-of_z fits, to_z-of_z c.ranges.sign_mask)
    (record {
      done = update_next c.args.omega c.args.shift.exponent (int_lt c.args.sign_mask (pos 0)) old us now i _ now_long old_long us_long c.loop-i.invariant.kept e done;
      kept = step_kept old now i _ now_long old_long c.loop-i.invariant.kept;
      bound = step_bound (2 ^ (c.args.omega + 2)) now i _ c.loop-i.invariant.bound c.moved.ensures.bound;
      long = rw length-set c.loop-i.invariant.long;
    })
