use Rattle.std.proofs.Common.{refl}
use Rattle.sample_adaptive.specs.Unfold.{everything}
use Rattle.sample_adaptive.proofs.worked.register_wraps.Goals as goal

pub returns : goal.returns
unfolding everything
returns c = refl
