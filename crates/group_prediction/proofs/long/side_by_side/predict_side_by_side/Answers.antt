use Rattle.std.proofs.Common.{◌≡◌, ◌+◌, ◌*◌, ◌-◌, ◌<◌, ℕ, zero, suc, List, [], ◌∷◌, length, take, drop, slice_get, slice_index_or, Some, min, refl, sym, ◌∙◌, subst, arith}
use Rattle.std.proofs.lemmas.List.{length-take-le, length-drop}
use Rattle.std.proofs.lemmas.Option.{slice_get_within}
use Rattle.cube_core.proofs.Lists.{get_drop}
use Rattle.predict_core.specs.Following.{PredictorState}
use Rattle.group_prediction.specs.GroupLines.{AreLongLines, no_long_lines}
use Rattle.group_prediction.proofs.long.side_by_side.predict_side_by_side.Goals as goal

get_first : (n i : ℕ) (xs : List PredictorState) → i < n → slice_get (take n xs) i ≡ slice_get xs i
get_first zero i xs h = absurd (omega (arith, h))
get_first (suc n) i [] h = refl
get_first (suc n) zero (x ∷ xs) h = refl
get_first (suc n) (suc i) (x ∷ xs) h = get_first n i xs (omega (arith, h))

pub predict_four-requires-clause-lines : goal.predict_four-requires-clause-lines
predict_four-requires-clause-lines g c b s l e =
    let bands : List PredictorState = c.args.bands.now in let some = c.requires.few.0 in
    let k : ℕ = c.min-few.result in let is : k ≡ min (length bands) 4 = c.min-few.ensures in
    let low = c.split_at_mut-low.ensures.front in
    let long : length (take k bands) ≡ k = length-take-le k bands (omega (arith, is)) in
    let same : min b (length (take k bands) - 1) ≡ min b (k - 1) = omega (arith, long) in
    let there : slice_get (take k bands) (min b (length (take k bands) - 1)) ≡ Some s =
    subst (λ (bs : List PredictorState). slice_get bs (min b (length bs - 1)) ≡ Some s) low e in
    let at : slice_get bands (min b (k - 1)) ≡ Some s =
    sym (get_first k (min b (k - 1)) bands (omega (arith, is, some))) ∙ subst (λ n. slice_get (take k bands) n ≡ Some s) same there in
    let first : min b (k - 1) ≡ min b (length bands - 1) = omega (arith, is, l, some) in
    let told = c.fill_lanes.ensures b s (omega (arith, l, some)) (subst (λ n. slice_get bands n ≡ Some s) first at) in
    let none : b ≡ 0 + b = omega arith in
    subst (λ n. AreLongLines (2 * g.row.Q) s.predictor s.band c.args.run.now (slice_index_or c.fill_lanes.new.out n no_long_lines)) none told

pub predict_high-requires-clause-lines : goal.predict_high-requires-clause-lines
predict_high-requires-clause-lines g c b s l e =
    let bands : List PredictorState = c.args.bands.now in
    let k : ℕ = c.min-few.result in let is : k ≡ min (length bands) 4 = c.min-few.ensures in
    let high = c.split_at_mut-low.ensures.back in
    let long : length (drop k bands) ≡ length bands - k = length-drop k bands in
    let there : slice_get (drop k bands) (min b (length (drop k bands) - 1)) ≡ Some s =
    subst (λ (bs : List PredictorState). slice_get bs (min b (length bs - 1)) ≡ Some s) high e in
    let inside = slice_get_within (drop k bands) (min b (length (drop k bands) - 1)) s there in
    let at : slice_get bands (k + min b (length (drop k bands) - 1)) ≡ Some s = sym (get_drop bands k (min b (length (drop k bands) - 1))) ∙ there in
    let later : k + min b (length (drop k bands) - 1) ≡ min (4 + b) (length bands - 1) = omega (arith, is, long, inside) in
    c.fill_lanes.ensures (4 + b) s (omega (arith, l, is, long, inside)) (subst (λ n. slice_get bands n ≡ Some s) later at)
