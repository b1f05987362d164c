use Rattle.std.proofs.Common.{◌∙◌, ap, sym}
use Rattle.sample_prediction.proofs.Tables.{in_front, in_front_is}
use Rattle.sample_prediction.proofs.start.entries_before.Goals as goal

pub returns : goal.returns
returns c p e f = rw (c.saturating_sub.ensures, c.min-near.ensures) (ap (λ most. in_front c.args.first most c.args.z) (sym e) ∙ in_front_is p _ f _)
