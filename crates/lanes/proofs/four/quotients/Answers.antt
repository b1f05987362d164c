use Rattle.std.proofs.Common.{◌∙◌, ap, sym, subst, unsigned_abs, ◌<◌, ◌^◌, w32, w64}
use Rattle.lanes.proofs.Ranges.{vector}
use Rattle.lanes.proofs.Steps.{kept}
use Rattle.lanes.specs.Lanes.{halved}
use Rattle.lanes.proofs.four.quotients.Goals as goal

pub shortened-requires : goal.shortened-requires
shortened-requires c k within =
    let a = vector w64 4 c.args.a _ c.well_formed.0 in let s = vector w64 4 c.long_shifted.result _ c.long_shifted.type_inv in
    let e = kept w64 c.long_shifted.result k s.1 ∙ c.long_shifted.ensures k within ∙ ap (λ x. halved x c.args.by) (kept w64 c.args.a k a.1) in
    subst (λ x. unsigned_abs x < 2 ^ 31) (sym e) (c.requires.fit k within)

pub returns : goal.returns
returns c k within =
    let a = vector w64 4 c.args.a _ c.well_formed.0 in let s = vector w64 4 c.long_shifted.result _ c.long_shifted.type_inv in
    let x = vector w32 4 c.shortened.result _ c.shortened.type_inv in
    kept w32 c.shortened.result k x.1 ∙ c.shortened.ensures k within
    ∙ kept w64 c.long_shifted.result k s.1 ∙ c.long_shifted.ensures k within ∙ ap (λ x. halved x c.args.by) (kept w64 c.args.a k a.1)
