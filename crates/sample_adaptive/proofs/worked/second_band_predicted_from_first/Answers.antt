use Rattle.std.proofs.Common.{refl}
use Rattle.sample_adaptive.specs.Unfold.{everything}
use Rattle.sample_adaptive.proofs.worked.second_band_predicted_from_first.Goals as goal

pub returns : goal.returns
unfolding everything
returns c = refl
