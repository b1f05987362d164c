use Rattle.sample_adaptive.proofs.Counting.{parameter_is_greatest}
use Rattle.sample_adaptive.proofs.laws.parameter_is_greatest.Goals as goal

pub returns : goal.returns
returns c = parameter_is_greatest
