use Rattle.predict_core.proofs.Largest.{counted_bound}
use Rattle.predict_core.proofs.laws.counted_bound.Goals as goal

pub returns : goal.returns
returns c = counted_bound
