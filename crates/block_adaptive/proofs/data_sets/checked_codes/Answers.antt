use Rattle.std.proofs.Common.{◌∙◌, arith}
use Rattle.header_bits.proofs.Each.{each_more, each_ends, each_done}
use Rattle.block_adaptive.proofs.Takes.{quotients_each}
use Rattle.block_adaptive.proofs.data_sets.checked_codes.Goals as goal

pub returns-in_err-value-clause-read : goal.returns-in_err-value-clause-read
returns-in_err-value-clause-read c = grind (arith, each_ends, quotients_each)

pub loop-value-preserved : goal.loop-value-preserved
loop-value-preserved c =
    let one = rw (c.loop-value.invariant.count, c.from.ensures) at c.in_ok-value.ensures.read in
    record { read = each_more c.loop-value.invariant.read (omega arith) one; count = c.in_ok-value.ensures.count ∙ c.loop-value.invariant.count }

pub returns-clause-read : goal.returns-clause-read
returns-clause-read c = quotients_each _ _ _ _ ∙ each_done c.loop-value.invariant.read (omega arith)
