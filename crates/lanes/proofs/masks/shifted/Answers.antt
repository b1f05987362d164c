use Rattle.std.proofs.Common.{◌/◌, ◌^◌, ◌∙◌, replicate, ap}
use Rattle.std.proofs.lemmas.Simd.{get_or-replicate, length-replicate}
use Rattle.lanes.specs.Lanes.{number}
use Rattle.lanes.proofs.MaskSteps.{step}
use Rattle.lanes.proofs.masks.shifted.Goals as goal

pub returns : goal.returns
returns c k within =
    let a = c.fits-a in
    step _ c.args.a (replicate 8 c.args.by) 8 k a.0 (length-replicate 8 c.args.by) within
    ∙ ap (λ by. number c.args.a k / 2 ^ by) (get_or-replicate 8 k c.args.by 0 within)
