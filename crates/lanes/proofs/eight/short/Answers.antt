use Rattle.std.proofs.Common.{min, replicate, refl, ap, ◌∙◌, arith, w32}
use Rattle.std.proofs.lemmas.List.{get_or-map}
use Rattle.std.proofs.lemmas.Simd.{Each1-from_get_or}
use Rattle.lanes.specs.Lanes.{number}
use Rattle.lanes.proofs.Plain.{plain, least_of, length-chosen, splat}
use Rattle.lanes.proofs.eight.short.Goals as goal

pub overflow_cast-result : goal.overflow_cast-result
overflow_cast-result c =
    let a = plain w32 8 c.args.a _ c.well_formed.0 in
    let long = length-chosen w32 c.args.a (replicate 8 65535) c.args.a (replicate 8 65535) 8 a.0 refl a.0 refl in
    Each1-from_get_or _ _ 0 (λ k h.
    let e = least_of w32 c.args.a (replicate 8 65535) 8 k a.0 refl (omega (arith, h, long)) ∙ ap (λ n. min (number c.args.a k) n) (splat 8 k 65535 (omega (arith, h, long))) in
    record { fits = omega (arith, e) })

pub returns : goal.returns
returns c k lt =
    let a = plain w32 8 c.args.a _ c.well_formed.0 in
    let long = length-chosen w32 c.args.a (replicate 8 65535) c.args.a (replicate 8 65535) 8 a.0 refl a.0 refl in
    get_or-map _ _ k 0 0 (omega (arith, lt, long))
    ∙ least_of w32 c.args.a (replicate 8 65535) 8 k a.0 refl lt ∙ ap (λ n. min (number c.args.a k) n) (splat 8 k 65535 lt) ∙ omega (arith, c.requires k lt)
