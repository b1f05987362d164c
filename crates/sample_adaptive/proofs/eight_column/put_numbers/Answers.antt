use Rattle.std.proofs.Common.{◌+◌, ◌∙◌, arith}
use Rattle.std.proofs.lemmas.List.{length-set, take-set-le}
use Rattle.lanes.specs.Lanes.{number}
use Rattle.sample_adaptive.proofs.EightColumn.{one_put_more}
use Rattle.sample_adaptive.proofs.eight_column.put_numbers.Goals as goal

pub loop-j-preserved : goal.loop-j-preserved
loop-j-preserved c =
    let was = c.loop-j.invariant in
    let x = number c.args.numbers.now c.loop-j.j in
    record {
      long = length-set c.loop-j.residuals (c.args.i + c.loop-j.j) x ∙ was.long;
      before = take-set-le c.args.i c.loop-j.residuals (c.args.i + c.loop-j.j) x (omega arith) ∙ was.before;
      numbers = one_put_more c.loop-j.residuals c.args.numbers.now c.args.i c.loop-j.j (omega (arith, was.long, c.requires, c.loop-j-test.true)) was.numbers;
    }
