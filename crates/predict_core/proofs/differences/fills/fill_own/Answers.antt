use Rattle.std.proofs.Common.{◌≡◌, ◌<◌, pos, length, to_z, w32, SFits, to_z-of_z, rules, arith, ap, ◌∙◌, length-set}
use Rattle.std.proofs.lemmas.Int.{to_z_pos}
use Rattle.sample_prediction.specs.Lines.{line_sum, line_difference}
use Rattle.predict_core.proofs.Places.{written_next}
use Rattle.predict_core.proofs.differences.fills.fill_own.Goals as goal

pub loop-i-preserved : goal.loop-i-preserved
loop-i-preserved c =
    let kept = c.loop-i.invariant in let fits : SFits w32 c.difference_of.result = search rules in
    let sum : to_z w32 c.sum_of_lines-sum.result ≡ pos (line_sum c.args.column c.args.lines.now.current c.args.lines.now.above c.loop-i.i) =
    to_z_pos w32 c.sum_of_lines-sum.result (omega (arith, c.sum_of_lines-sum.ensures.bound)) ∙ ap pos c.sum_of_lines-sum.ensures.value in
    let own = to_z-of_z fits ∙ (rw c.sum_of_lines-sum.ensures.value at c.difference_of.ensures.value) in
    let sums_inside : c.loop-i.i < length c.loop-i.sums = omega (arith, kept.sums_long, c.loop-i-test.true) in
    let own_inside : c.loop-i.i < length c.loop-i.own = omega (arith, kept.own_long, c.loop-i-test.true) in record {
      sums = written_next (pos 0) (λ k. pos (line_sum c.args.column c.args.lines.now.current c.args.lines.now.above k)) _ _ _ sums_inside sum kept.sums;
      own = written_next (pos 0) (line_difference c.args.column c.args.lines.now.current c.args.lines.now.above) _ _ _ own_inside own kept.own;
      sums_long = rw length-set kept.sums_long;
      own_long = rw length-set kept.own_long;
    }

pub returns-clause-sums : goal.returns-clause-sums
returns-clause-sums c = search rules
