use Rattle.block_adaptive.proofs.Bodies.{body_is_read}
use Rattle.block_adaptive.proofs.laws.body_is_read.Goals as goal

pub returns : goal.returns
returns c = body_is_read
