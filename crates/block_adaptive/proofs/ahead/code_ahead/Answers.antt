use Rattle.std.proofs.Common.{◌-◌, arith}
use Rattle.std.specs.Int.Count.{count_leading_zeros}
use Rattle.std.proofs.lemmas.Nat.{one_shl}
use Rattle.block_adaptive.proofs.Looking.{code_used, code_word}
use Rattle.block_adaptive.proofs.ahead.code_ahead.Goals as goal
use Rattle.block_adaptive.proofs.Tops.{top_is, top_cleared}

pub overflow_sub-result : goal.overflow_sub-result
overflow_sub-result c = omega (arith, (top_is _ _ c.requires.below c.requires.few c.if-ahead-eq0.false).inside)

pub overflow_sub-result-2 : goal.overflow_sub-result-2
overflow_sub-result-2 c = omega (arith, (top_is _ _ c.requires.below c.requires.few c.if-ahead-eq0.false).inside)

pub returns : goal.returns
returns c =
    let top = top_is c.args.ahead.word c.args.ahead.known c.requires.below c.requires.few c.if-ahead-eq0.false in
    rw (
      one_shl (63 - count_leading_zeros 64 c.args.ahead.word) 64 (omega arith),
      top_cleared c.args.ahead.word (63 - count_leading_zeros 64 c.args.ahead.word) top.least top.most,
    ) (
      omega (arith, c.requires.few),
      code_word c.args.ahead (63 - count_leading_zeros 64 c.args.ahead.word) c.requires top,
      λ left h. code_used c.args.ahead (63 - count_leading_zeros 64 c.args.ahead.word) left top h,
    )
