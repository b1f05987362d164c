use Rattle.coder_pipe.proofs.Weaves.{parts_of_weave}
use Rattle.coder_pipe.proofs.laws.parts_of_weave.Goals as goal

pub returns : goal.returns
returns c = parts_of_weave
