use Rattle.block_adaptive.proofs.Segmented.{segments_are_counted}
use Rattle.block_adaptive.proofs.laws.segments_are_counted.Goals as goal

pub returns : goal.returns
returns c = segments_are_counted
