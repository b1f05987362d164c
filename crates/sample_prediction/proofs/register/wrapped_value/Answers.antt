use Rattle.sample_prediction.proofs.Wrapping.{by_shifts, SFits-shr}
use Rattle.std.proofs.Common.{to_z-of_z, ◌∙◌, ◌*◌, ◌-◌, ◌^◌, of_z, w64, lit<}
use Rattle.std.proofs.Math.Nat.{mod-lt}
use Rattle.sample_prediction.proofs.register.wrapped_value.Goals as goal

pub returns : goal.returns
returns c = to_z-of_z (SFits-shr _ _ (mod-lt (of_z w64 c.args.value * 2 ^ (64 - c.args.register)) (lit< tt)))
    ∙ by_shifts _ _ c.ranges.value c.requires.least c.requires.most
