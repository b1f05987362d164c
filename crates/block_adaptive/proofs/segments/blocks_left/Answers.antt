use Rattle.std.proofs.Common.{rules}
use Rattle.block_adaptive.specs.Segments.{segment_rest}
use Rattle.block_adaptive.proofs.segments.blocks_left.Goals as goal

pub returns-clause-value : goal.returns-clause-value
unfolding segment_rest
returns-clause-value c = search rules

pub returns-clause-most : goal.returns-clause-most
unfolding segment_rest
returns-clause-most c = search rules
