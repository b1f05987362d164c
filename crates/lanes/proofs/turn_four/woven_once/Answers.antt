use Rattle.std.proofs.Common.{◌∷◌, [], ◌∙◌, ap₂, w32}
use Rattle.lanes.proofs.Ranges.{vector}
use Rattle.lanes.proofs.Steps.{same}
use Rattle.lanes.specs.TurningFour.{lower_halves, upper_halves}
use Rattle.lanes.proofs.turn_four.woven_once.Goals as goal

pub returns : goal.returns
returns c =
    let s = c.args.square in let o = c.well_formed.0.1.1 in
    let f0 = same w32 s.a (vector w32 4 s.a _ o.0).1 in
    let f1 = same w32 s.b (vector w32 4 s.b _ o.1.0).1 in
    let f2 = same w32 s.c (vector w32 4 s.c _ o.1.1.0).1 in
    let f3 = same w32 s.d (vector w32 4 s.d _ o.1.1.1.0).1 in
    λ x. (same w32 c.lower_of.result (vector w32 4 _ _ c.lower_of.type_inv).1 ∙ c.lower_of.ensures ∙ ap₂ lower_halves f0 f2) x
    ∷ (same w32 c.upper_of.result (vector w32 4 _ _ c.upper_of.type_inv).1 ∙ c.upper_of.ensures ∙ ap₂ upper_halves f0 f2) x
    ∷ (same w32 c.lower_of-2.result (vector w32 4 _ _ c.lower_of-2.type_inv).1 ∙ c.lower_of-2.ensures ∙ ap₂ lower_halves f1 f3) x
    ∷ (same w32 c.upper_of-2.result (vector w32 4 _ _ c.upper_of-2.type_inv).1 ∙ c.upper_of-2.ensures ∙ ap₂ upper_halves f1 f3) x ∷ []
