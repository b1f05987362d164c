use Rattle.sample_prediction.proofs.start.power.Goals as goal
use Rattle.sample_prediction.proofs.Tables.{power_kept}

pub returns : goal.returns
returns c = record { value = power_kept c.args.exponent c.requires }
