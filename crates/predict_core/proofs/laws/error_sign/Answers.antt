use Rattle.predict_core.proofs.ErrorSigns.{error_sign}
use Rattle.predict_core.proofs.laws.error_sign.Goals as goal

pub returns : goal.returns
returns c = error_sign
