use Rattle.block_adaptive.proofs.Bodies.{one_body}
use Rattle.block_adaptive.proofs.laws.one_body.Goals as goal

pub returns : goal.returns
returns c = one_body
