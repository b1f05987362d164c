use Rattle.predict_core.proofs.ErrorSigns.{difference_bound}
use Rattle.predict_core.proofs.laws.difference_bound.Goals as goal

pub returns : goal.returns
returns c = difference_bound
