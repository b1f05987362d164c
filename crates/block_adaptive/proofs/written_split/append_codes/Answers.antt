use Rattle.std.proofs.lemmas.Grind.{common_steps}
use Rattle.std.proofs.Common.{arith}
use Rattle.block_adaptive.proofs.Emits.{quotient_next, quotient_end}
use Rattle.block_adaptive.proofs.Gathers.{goes_step, goes_end}
use Rattle.block_adaptive.proofs.written_split.append_codes.Goals as goal
use Rattle.block_adaptive.proofs.Zeros.{length-fundamental}

pub append_fundamental-requires : goal.append_fundamental-requires
append_fundamental-requires c = grind (arith, common_steps, length-fundamental, quotient_next)

pub loop-value-preserved : goal.loop-value-preserved
loop-value-preserved c = goes_step _ c.loop-value.invariant (quotient_next _ _ _ c.loop-value-test.true) (rw c.from.ensures at c.append_fundamental.ensures)

pub returns : goal.returns
returns c = goes_end c.loop-value.invariant (quotient_end c.args.k c.loop-value.value-index c.args.values.now (omega arith))
