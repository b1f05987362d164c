use Rattle.std.proofs.Common.{◌∷◌, [], ◌∙◌, ap₂, w16}
use Rattle.lanes.proofs.Ranges.{vector}
use Rattle.lanes.proofs.Steps.{same}
use Rattle.lanes.specs.Turning.{first_halves, last_halves}
use Rattle.lanes.proofs.turn.woven.Goals as goal

pub returns : goal.returns
returns c =
    let s = c.args.square in let o = c.well_formed.0.1.1 in
    let f0 = same w16 s.a (vector w16 8 s.a _ o.0).1 in
    let f1 = same w16 s.b (vector w16 8 s.b _ o.1.0).1 in
    let f2 = same w16 s.c (vector w16 8 s.c _ o.1.1.0).1 in
    let f3 = same w16 s.d (vector w16 8 s.d _ o.1.1.1.0).1 in
    let f4 = same w16 s.e (vector w16 8 s.e _ o.1.1.1.1.0).1 in
    let f5 = same w16 s.f (vector w16 8 s.f _ o.1.1.1.1.1.0).1 in
    let f6 = same w16 s.g (vector w16 8 s.g _ o.1.1.1.1.1.1.0).1 in
    let f7 = same w16 s.h (vector w16 8 s.h _ o.1.1.1.1.1.1.1.0).1 in
    λ x. (same w16 c.first_halves.result (vector w16 8 _ _ c.first_halves.type_inv).1 ∙ c.first_halves.ensures ∙ ap₂ first_halves f0 f4) x
    ∷ (same w16 c.last_halves.result (vector w16 8 _ _ c.last_halves.type_inv).1 ∙ c.last_halves.ensures ∙ ap₂ last_halves f0 f4) x
    ∷ (same w16 c.first_halves-2.result (vector w16 8 _ _ c.first_halves-2.type_inv).1 ∙ c.first_halves-2.ensures ∙ ap₂ first_halves f1 f5) x
    ∷ (same w16 c.last_halves-2.result (vector w16 8 _ _ c.last_halves-2.type_inv).1 ∙ c.last_halves-2.ensures ∙ ap₂ last_halves f1 f5) x
    ∷ (same w16 c.first_halves-3.result (vector w16 8 _ _ c.first_halves-3.type_inv).1 ∙ c.first_halves-3.ensures ∙ ap₂ first_halves f2 f6) x
    ∷ (same w16 c.last_halves-3.result (vector w16 8 _ _ c.last_halves-3.type_inv).1 ∙ c.last_halves-3.ensures ∙ ap₂ last_halves f2 f6) x
    ∷ (same w16 c.first_halves-4.result (vector w16 8 _ _ c.first_halves-4.type_inv).1 ∙ c.first_halves-4.ensures ∙ ap₂ first_halves f3 f7) x
    ∷ (same w16 c.last_halves-4.result (vector w16 8 _ _ c.last_halves-4.type_inv).1 ∙ c.last_halves-4.ensures ∙ ap₂ last_halves f3 f7) x ∷ []
