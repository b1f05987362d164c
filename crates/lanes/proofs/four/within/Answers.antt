use Rattle.std.proofs.Common.{◌∙◌, ap₂, w32, of_z}
use Rattle.std.specs.Int.{int_min, int_max}
use Rattle.std.proofs.Common.{refl}
use Rattle.std.proofs.lemmas.Int.{to_z-of_z}
use Rattle.lanes.proofs.Ranges.{vector}
use Rattle.lanes.proofs.Steps.{between}
use Rattle.lanes.proofs.four.within.Goals as goal

pub returns : goal.returns
returns c k within =
    let a = vector w32 4 c.args.a _ c.well_formed.0 in
    between w32 c.args.a (of_z w32 c.args.most) (of_z w32 c.args.least) 4 k a.1 a.0 within
    ∙ ap₂ int_max (to_z-of_z w32 c.args.least c.ranges.least) (ap₂ int_min refl (to_z-of_z w32 c.args.most c.ranges.most))
