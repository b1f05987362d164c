use Rattle.std.proofs.Common.{Bool, true, false, cond, ◌≡◌, ◌∙◌, ap, ℕ, List, to_z, w16, w32, replicate, length, rules}
use Rattle.std.proofs.lemmas.Simd.{get_or-replicate, length-replicate, Each1-zip2, Each2-all}
use Rattle.std.specs.Int.Signed.{lt_z}
use mir.Syntax.{cast, signed}
use borrow.Rule.Simd.Lanes.{Asks1}
use borrow.Table.Row.{s_int}
use Rattle.lanes.specs.Lanes.{number}
use Rattle.lanes.proofs.MaskSteps.{chosen_by_casts, mask_is, less_is}
use Rattle.lanes.proofs.masks.where_less.Goals as goal

-- a mask of 32 bits fits in 16
mask_fits : (t : Bool) → Asks1 (cast signed signed w16) (s_int w32) (cond t 4294967295 0)
mask_fits true = search rules
mask_fits false = search rules

pub overflow_cast-result : goal.overflow_cast-result
overflow_cast-result c = Each1-zip2 _ _ _ _ (Each2-all _ (λ x y. mask_fits (lt_z (to_z w32 x) (to_z w32 y))) _ _)

pub returns : goal.returns
returns c k within =
    let none : List ℕ = replicate 8 0 in
    let ones : List ℕ = replicate 8 65535 in
    let x : ℕ = number c.args.a k in
    let y : ℕ = number c.args.b k in
    let zero_ : number none k ≡ 0 = get_or-replicate 8 k 0 0 within in
    let one : number ones k ≡ 65535 = get_or-replicate 8 k 65535 0 within in
    let l : length none ≡ 8 = length-replicate {A = ℕ} 8 0 in
    chosen_by_casts _ _ _ _ _ c.args.a c.args.b none ones none 8 k c.fits-a.0 c.fits-b.0 l (length-replicate {A = ℕ} 8 65535) l within
    ∙ rw (zero_, one) (mask_is (lt_z (to_z w32 x) (to_z w32 y)) ∙ ap (λ t. cond t 65535 0) (less_is x y (c.requires.a k within) (c.requires.b k within)))
