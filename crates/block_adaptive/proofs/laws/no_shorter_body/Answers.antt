use Rattle.block_adaptive.proofs.Segmented.{no_shorter_body}
use Rattle.block_adaptive.proofs.laws.no_shorter_body.Goals as goal

pub returns : goal.returns
returns c = no_shorter_body
