use Rattle.std.proofs.Common.{ℕ, ◌≡◌, ◌/◌, ◌%◌, ◌^◌, length, get_or, Bool, true, false, cond, leb, refl, sym, ap, ◌∙◌, arith, w16, eqb-true, leb-true}
use Rattle.std.proofs.lemmas.Simd.{tops_compared, mask_l-mod, bit_mask_l, get_or-zip2, length-zip2}
use lib.Lanes.{zip2, mask_l}
use Rattle.lanes.proofs.Plain.{plain}
use Rattle.lanes.proofs.Steps.{eight}
use Rattle.lanes.proofs.eight.are_within.Goals as goal

is_set : (b : Bool) → ◌≡◌ {A = ℕ} (cond b 1 0) 1 → b ≡ true
is_set true e = refl
is_set false e = absurd (omega (arith, e))

pub returns : goal.returns
returns c all k lt =
    let a = plain w16 8 c.args.a _ c.well_formed.0 in let m = plain w16 8 c.args.most _ c.well_formed.1.0 in
    let long : length (zip2 leb c.args.a c.args.most) ≡ 8 = length-zip2 leb c.args.a c.args.most (a.0 ∙ sym m.0) ∙ a.0 in
    let mask : mask_l (zip2 leb c.args.a c.args.most) ≡ 255 =
    sym (mask_l-mod (zip2 leb c.args.a c.args.most) 64 (omega (arith, long)))
    ∙ ap (λ ms. mask_l ms % 2 ^ 64) (sym (tops_compared w16 leb c.args.a c.args.most)) ∙ eqb-true _ _ all in
    let one : 255 / 2 ^ k % 2 ≡ 1 = eight (λ j. 255 / 2 ^ j % 2 ≡ 1) refl refl refl refl refl refl refl refl k lt in
    let set = is_set (get_or (zip2 leb c.args.a c.args.most) k false) (sym (bit_mask_l (zip2 leb c.args.a c.args.most) k) ∙ ap (λ n. n / 2 ^ k % 2) mask ∙ one) in
    leb-true _ _ (sym (get_or-zip2 leb c.args.a c.args.most k 0 0 false (omega (arith, lt, a.0)) (omega (arith, lt, m.0))) ∙ set)
