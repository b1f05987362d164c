use Rattle.sample_prediction.proofs.OneSample.{one_sample_lem}
use Rattle.predict_core.proofs.laws.one_sample.Goals as goal

pub returns : goal.returns
returns c = one_sample_lem
