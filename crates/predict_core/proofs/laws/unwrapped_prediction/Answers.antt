use Rattle.predict_core.proofs.ErrorSigns.{unwrapped_prediction}
use Rattle.predict_core.proofs.laws.unwrapped_prediction.Goals as goal

pub returns : goal.returns
returns c = unwrapped_prediction
