use Rattle.std.proofs.Common.{refl}
use Rattle.sample_adaptive.specs.Unfold.{everything}
use Rattle.sample_adaptive.proofs.worked.two_equal_samples.Goals as goal

pub returns : goal.returns
unfolding everything
returns c = refl
