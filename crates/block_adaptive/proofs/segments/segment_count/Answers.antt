use Rattle.std.proofs.Common.{rules}
use Rattle.block_adaptive.proofs.segments.segment_count.Goals as goal

pub returns : goal.returns
returns c = search rules
