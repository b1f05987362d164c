use Rattle.predict_core.proofs.Frame.{places_precede_lem}
use Rattle.predict_core.proofs.laws.places_precede.Goals as goal

pub returns : goal.returns
returns c = places_precede_lem
