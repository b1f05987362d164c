use Rattle.std.proofs.Common.{rules}
use Rattle.coder_pipe.proofs.gather.greatest_of.Goals as goal

pub loop-i-init : goal.loop-i-init
loop-i-init c = search rules
