use Rattle.lanes.proofs.Plain.{splat}
use Rattle.block_adaptive.proofs.written_split.are_short.Goals as goal

pub returns : goal.returns
returns c t j lt = rw (splat 8 j 13 lt) at (c.are_within.ensures t j lt)
