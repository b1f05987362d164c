use Rattle.predict_core.proofs.Largest.{register_bound}
use Rattle.predict_core.proofs.laws.register_bound.Goals as goal

pub returns : goal.returns
returns c = register_bound
