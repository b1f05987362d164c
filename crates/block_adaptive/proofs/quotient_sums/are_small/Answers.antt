use Rattle.lanes.proofs.Plain.{splat}
use Rattle.block_adaptive.proofs.quotient_sums.are_small.Goals as goal

pub returns : goal.returns
returns c t j lt = rw (splat 8 j 8191 lt) at (c.are_within.ensures t j lt)
