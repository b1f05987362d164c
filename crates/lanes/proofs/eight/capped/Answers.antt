use Rattle.std.proofs.Common.{min, replicate, refl, ap, ◌∙◌, w16}
use Rattle.lanes.specs.Lanes.{number}
use Rattle.lanes.proofs.Plain.{plain, least_of, splat}
use Rattle.lanes.proofs.eight.capped.Goals as goal

pub returns : goal.returns
returns c k lt =
    let a = plain w16 8 c.args.a _ c.well_formed.0 in
    least_of w16 c.args.a (replicate 8 c.args.most) 8 k a.0 refl lt ∙ ap (λ n. min (number c.args.a k) n) (splat 8 k c.args.most lt)
