use Rattle.std.proofs.Common.{refl}
use Rattle.sample_adaptive.specs.Unfold.{everything}
use Rattle.sample_adaptive.proofs.worked.weight_stops_at_the_least.Goals as goal

pub returns : goal.returns
unfolding everything
returns c = refl
