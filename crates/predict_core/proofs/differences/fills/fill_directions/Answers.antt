use Rattle.std.proofs.Common.{◌≡◌, ◌<◌, pos, [], ◌∷◌, ◌++◌, length, to_z, w32, SFits, to_z-of_z, rules, arith, refl, ap, ◌∙◌, length-set}
use Rattle.std.proofs.lemmas.Int.{to_z_pos}
use Rattle.sample_prediction.specs.Lines.{line_sum, line_difference, line_directions}
use Rattle.predict_core.proofs.Places.{written_next}
use Rattle.predict_core.proofs.differences.fills.fill_directions.Goals as goal
use Rattle.predict_core.proofs.differences.fills.fill_directions.Goals.{After-loop-i}

pub loop-i-preserved : goal.loop-i-preserved
loop-i-preserved c =
    let kept = c.loop-i.invariant in let own_fits : SFits w32 c.difference_of.result = search rules in
    let north_fits : SFits w32 c.difference_of-north.result = search rules in let west_fits : SFits w32 c.difference_of-west.result = search rules in
    let north_west_fits : SFits w32 c.difference_of-north_west.result = search rules in let below_fits : SFits w32 c.central_at.result = search rules in
    let sum : to_z w32 c.sum_of_lines-sum.result ≡ pos (line_sum c.args.column c.args.lines.now.current c.args.lines.now.above c.loop-i.i) =
    to_z_pos w32 c.sum_of_lines-sum.result (omega (arith, c.sum_of_lines-sum.ensures.bound)) ∙ ap pos c.sum_of_lines-sum.ensures.value in
    let own = to_z-of_z own_fits ∙ (rw c.sum_of_lines-sum.ensures.value at c.difference_of.ensures.value) in
    let north = to_z-of_z north_fits ∙ (rw c.sum_of_lines-sum.ensures.value at c.difference_of-north.ensures.value) in
    let west = to_z-of_z west_fits ∙ (rw c.sum_of_lines-sum.ensures.value at c.difference_of-west.ensures.value) in
    let north_west = to_z-of_z north_west_fits ∙ (rw c.sum_of_lines-sum.ensures.value at c.difference_of-north_west.ensures.value) in
    let below = to_z-of_z below_fits ∙ c.central_at.ensures.value in
    let sums_inside : c.loop-i.i < length c.loop-i.sums = omega (arith, kept.sums_long, c.loop-i-test.true) in
    let own_inside : c.loop-i.i < length c.loop-i.own = omega (arith, kept.own_long, c.loop-i-test.true) in
    let inside : c.loop-i.i < length c.loop-i.out = omega (arith, kept.long, c.loop-i-test.true) in record {
      sums = written_next (pos 0) (λ k. pos (line_sum c.args.column c.args.lines.now.current c.args.lines.now.above k)) _ _ _ sums_inside sum kept.sums;
      own = written_next (pos 0) (line_difference c.args.column c.args.lines.now.current c.args.lines.now.above) _ _ _ own_inside own kept.own;
      done = written_next [] (λ k. line_directions c.args.column c.args.lines.now.current c.args.lines.now.above k ++ line_difference c.args.column
          c.args.below.now.current c.args.below.now.above k ∷ []) _ _ _ inside (rw (north, west, north_west, below) refl) kept.done;
      sums_long = rw length-set kept.sums_long;
      own_long = rw length-set kept.own_long;
      long = rw length-set kept.long;
    }

done : (c : After-loop-i) → c.loop-i.i ≡ 64
done c = omega (arith, c.loop-i-test.false, c.loop-i.auto.i-end)

pub returns-clause-sums : goal.returns-clause-sums
returns-clause-sums c = rw (done c) at c.loop-i.invariant.sums

pub returns-clause-own : goal.returns-clause-own
returns-clause-own c = rw (done c) at c.loop-i.invariant.own

pub returns-clause-quads : goal.returns-clause-quads
returns-clause-quads c = rw (done c) at c.loop-i.invariant.done
