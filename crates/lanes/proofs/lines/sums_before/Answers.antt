use Rattle.lanes.proofs.MaskSteps.{below}
use Rattle.lanes.proofs.PrefixSums.{sums_of_wide_are}
use Rattle.lanes.proofs.lines.sums_before.Goals as goal

pub returns : goal.returns
returns c k within = sums_of_wide_are c.args.first c.args.a k c.fits-a.0 c.requires (λ j few. below 8 j c.args.a c.fits-a few) within
