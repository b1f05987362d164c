use Rattle.std.proofs.Common.{max, min, replicate, refl, ap, ap₂, ◌∙◌, w32}
use Rattle.lanes.specs.Lanes.{number}
use Rattle.lanes.proofs.Plain.{plain, least_of, greatest_of, length-chosen, splat}
use Rattle.lanes.proofs.eight.within.Goals as goal

pub returns : goal.returns
returns c k lt =
    let a = plain w32 8 c.args.a _ c.well_formed.0 in
    let low = length-chosen w32 c.args.a (replicate 8 c.args.most) c.args.a (replicate 8 c.args.most) 8 a.0 refl a.0 refl in
    greatest_of w32 _ (replicate 8 c.args.least) 8 k low refl lt
    ∙ ap₂ max (splat 8 k c.args.least lt)
    (least_of w32 c.args.a (replicate 8 c.args.most) 8 k a.0 refl lt ∙ ap (λ n. min (number c.args.a k) n) (splat 8 k c.args.most lt))
