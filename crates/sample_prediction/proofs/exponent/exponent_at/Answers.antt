use Rattle.std.proofs.Common.{arith}
use Rattle.std.proofs.lemmas.Int.{ints}
use Rattle.sample_prediction.proofs.Scaled.{exponent_is}
use Rattle.sample_prediction.proofs.exponent.exponent_at.Goals as goal

pub returns-clause-value : goal.returns-clause-value
returns-clause-value c =
    exponent_is c.args.predictor.now c.args.columns c.args.bits c.args.t c.growth_at.result _ c.growth_at.ensures.value (omega (arith, ints))
