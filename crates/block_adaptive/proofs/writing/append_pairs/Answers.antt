use Rattle.std.proofs.lemmas.Grind.{common_steps}
use Rattle.std.proofs.Common.{◌*◌, arith}
use Rattle.block_adaptive.proofs.Emits.{pair_next, pair_end}
use Rattle.block_adaptive.proofs.Gathers.{goes_step, goes_end}
use Rattle.block_adaptive.proofs.writing.append_pairs.Goals as goal
use Rattle.block_adaptive.proofs.Zeros.{length-fundamental}

pub append_fundamental-requires : goal.append_fundamental-requires
append_fundamental-requires c = grind (arith, common_steps, length-fundamental, pair_next)

pub loop-i-preserved : goal.loop-i-preserved
loop-i-preserved c = goes_step _ c.loop-i.invariant (pair_next c.loop-i.i c.args.block.now (omega arith)) c.append_fundamental.ensures

pub returns : goal.returns
returns c = goes_end c.loop-i.invariant (pair_end (2 * c.loop-i.i) c.args.block.now (omega arith))
