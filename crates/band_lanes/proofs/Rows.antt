-- Weights and components of one band, a pair more.
use Rattle.std.proofs.Common.{◌≡◌, ℕ, int_le, ◌+◌, ◌*◌, ◌/◌, ◌<◌, ◌≤◌, ℤ, pos, ◌+ℤ◌, ◌*ℤ◌, Bool, List, [], ◌∷◌, ◌++◌, length, take, get_or, set, arith, refl, sym, ap, ap₂, ◌∙◌, add-one, length-append}
use Rattle.std.specs.List.{flat_map}
use Rattle.std.proofs.lemmas.Int.{ints}
use Rattle.std.proofs.lemmas.List.{append_assoc, length-take-le}
use Rattle.std.proofs.lemmas.Grind.{flat_map-append}
use Rattle.std.proofs.Math.Seq.{take-suc, take-suc-set}
use Rattle.lanes.specs.Lanes.{lane, pair_sum}
use Rattle.sample_prediction.specs.Prediction.{inner_product}
use Rattle.sample_prediction.specs.Weights.{updated_weights, updated_weight}
use Rattle.sample_prediction.proofs.Prefixes.{product_more, update_more}
use Rattle.band_lanes.specs.declared.pairs.Pairs.{Pairs}
use Rattle.band_lanes.specs.Rows.{pair_of, row_at, weights_of, components_of, no_pairs}
use Rattle.band_lanes.specs.Updates.{updated_lane}

append_none : (xs : List ℤ) → xs ++ [] ≡ xs
append_none [] = refl
append_none (x ∷ xs) = ap (λ ys. x ∷ ys) (append_none xs)

-- two numbers of each item
two_of_each : {A : Type 0} (f : A → List ℤ) → ((x : A) → length (f x) ≡ 2) → (xs : List A) → length (flat_map f xs) ≡ 2 * length xs
two_of_each f h [] = refl
two_of_each f h (x ∷ xs) = let e = h x in let r = two_of_each f h xs in let l = length-append (f x) (flat_map f xs) in omega (arith, e, r, l)

pub weights_long : (n b : ℕ) (rows : List (List ℤ)) → n ≤ length rows → length (weights_of n b rows) ≡ 2 * n
unfolding weights_of
weights_long n b rows h = two_of_each (pair_of b) (λ r. refl) (take n rows) ∙ ap (λ k. 2 * k) (length-take-le n rows h)

pub components_long : (n b : ℕ) (pairs : List Pairs) (i : ℕ) → n ≤ length pairs → length (components_of n b pairs i) ≡ 2 * n
unfolding components_of
components_long n b pairs i h = two_of_each (λ (q : Pairs). pair_of b (row_at q i)) (λ q. refl) (take n pairs) ∙ ap (λ k. 2 * k) (length-take-le n pairs h)

pub weights_more : (n b : ℕ) (rows : List (List ℤ)) → n < length rows → weights_of (n + 1) b rows ≡ weights_of n b rows ++ pair_of b (get_or rows n [])
unfolding weights_of
weights_more n b rows h =
    ap (λ k. flat_map (pair_of b) (take k rows)) (add-one n) ∙ ap (flat_map (pair_of b)) (take-suc rows n [] h)
    ∙ flat_map-append (pair_of b) (take n rows) (get_or rows n [] ∷ [])
    ∙ ap (λ ys. flat_map (pair_of b) (take n rows) ++ ys) (append_none (pair_of b (get_or rows n [])))

pub components_more : (n b : ℕ) (pairs : List Pairs) (i : ℕ) → n < length pairs
    → components_of (n + 1) b pairs i ≡ components_of n b pairs i ++ pair_of b (row_at (get_or pairs n no_pairs) i)
unfolding components_of
components_more n b pairs i h =
    ap (λ k. flat_map (λ (q : Pairs). pair_of b (row_at q i)) (take k pairs)) (add-one n)
    ∙ ap (flat_map (λ (q : Pairs). pair_of b (row_at q i))) (take-suc pairs n no_pairs h)
    ∙ flat_map-append (λ (q : Pairs). pair_of b (row_at q i)) (take n pairs) (get_or pairs n no_pairs ∷ [])
    ∙ ap (λ ys. flat_map (λ (q : Pairs). pair_of b (row_at q i)) (take n pairs) ++ ys) (append_none (pair_of b (row_at (get_or pairs n no_pairs) i)))

same_length : (n b : ℕ) (rows : List (List ℤ)) (pairs : List Pairs) (i : ℕ) → n ≤ length rows → n ≤ length pairs
    → length (weights_of n b rows) ≡ length (components_of n b pairs i)
same_length n b rows pairs i h k = weights_long n b rows h ∙ sym (components_long n b pairs i k)

-- ---- their products

pub two_products : (ws us : List ℤ) (w v u x : ℤ) → length ws ≡ length us
    → inner_product (ws ++ w ∷ v ∷ []) (us ++ u ∷ x ∷ []) ≡ inner_product ws us +ℤ (w *ℤ u +ℤ v *ℤ x)
two_products ws us w v u x e =
    let one = product_more ws us w u e in
    let long : length (ws ++ w ∷ []) ≡ length (us ++ u ∷ []) = length-append ws (w ∷ []) ∙ ap (λ k. k + 1) e ∙ sym (length-append us (u ∷ [])) in
    ap₂ inner_product (sym (append_assoc ws (w ∷ []) (v ∷ []))) (sym (append_assoc us (u ∷ []) (x ∷ [])))
    ∙ product_more (ws ++ w ∷ []) (us ++ u ∷ []) v x long ∙ omega (arith, ints, one)

pub products_more : (n b : ℕ) (rows : List (List ℤ)) (pairs : List Pairs) (i : ℕ) → n < length rows → n < length pairs
    → inner_product (weights_of (n + 1) b rows) (components_of (n + 1) b pairs i)
    ≡ inner_product (weights_of n b rows) (components_of n b pairs i) +ℤ pair_sum (get_or rows n []) (row_at (get_or pairs n no_pairs) i) b
products_more n b rows pairs i h k =
    ap₂ inner_product (weights_more n b rows h) (components_more n b pairs i k)
    ∙ two_products (weights_of n b rows) (components_of n b pairs i) _ _ _ _ (same_length n b rows pairs i (omega arith) (omega arith))

pub products_none : (b : ℕ) (rows : List (List ℤ)) (pairs : List Pairs) (i : ℕ) → inner_product (weights_of 0 b rows) (components_of 0 b pairs i) ≡ pos 0
unfolding inner_product weights_of components_of
products_none b rows pairs i = refl

-- ---- their update

two_updates : (f : ℕ) (e : ℤ) (s : Bool) (ws us : List ℤ) (w v u x : ℤ) → length ws ≡ length us → updated_weights f e s (ws ++ w ∷ v ∷ []) (us ++ u ∷ x ∷ [])
    ≡ updated_weights f e s ws us ++ updated_weight f e s w u ∷ updated_weight f e s v x ∷ []
two_updates f e s ws us w v u x h =
    let long : length (ws ++ w ∷ []) ≡ length (us ++ u ∷ []) = length-append ws (w ∷ []) ∙ ap (λ k. k + 1) h ∙ sym (length-append us (u ∷ [])) in
    ap₂ (updated_weights f e s) (sym (append_assoc ws (w ∷ []) (v ∷ []))) (sym (append_assoc us (u ∷ []) (x ∷ [])))
    ∙ update_more f e s (ws ++ w ∷ []) (us ++ u ∷ []) v x long
    ∙ ap (λ ys. ys ++ updated_weight f e s v x ∷ []) (update_more f e s ws us w u h)
    ∙ append_assoc (updated_weights f e s ws us) (updated_weight f e s w u ∷ []) (updated_weight f e s v x ∷ [])

pub with_row : (n b : ℕ) (now : List (List ℤ)) (row : List ℤ) → n < length now → weights_of (n + 1) b (set now n row) ≡ weights_of n b now ++ pair_of b row
unfolding weights_of
with_row n b now row l =
    ap (λ k. flat_map (pair_of b) (take k (set now n row))) (add-one n) ∙ ap (flat_map (pair_of b)) (take-suc-set now n row l)
    ∙ flat_map-append (pair_of b) (take n now) (row ∷ []) ∙ ap (λ ys. flat_map (pair_of b) (take n now) ++ ys) (append_none (pair_of b row))

pub pair_updated : (f : ℕ) (e : ℤ) (s : Bool) (ws us : List ℤ) (w v u x : ℤ) → length ws ≡ length us
    → updated_weights f e s (ws ++ w ∷ v ∷ []) (us ++ u ∷ x ∷ []) ≡ updated_weights f e s ws us ++ updated_weights f e s (w ∷ v ∷ []) (u ∷ x ∷ [])
unfolding updated_weights
pair_updated f e s ws us w v u x h = two_updates f e s ws us w v u x h

pub updates_more : (f : ℕ) (e : ℤ) (s : Bool) (n b : ℕ) (old now : List (List ℤ)) (row : List ℤ) (pairs : List Pairs) (i : ℕ) → n < length old → n < length now
    → n < length pairs
    → pair_of b row ≡ updated_weights f e s (pair_of b (get_or old n [])) (pair_of b (row_at (get_or pairs n no_pairs) i))
    → weights_of n b now ≡ updated_weights f e s (weights_of n b old) (components_of n b pairs i)
    → weights_of (n + 1) b (set now n row) ≡ updated_weights f e s (weights_of (n + 1) b old) (components_of (n + 1) b pairs i)
updates_more f e s n b old now row pairs i h l k p q =
    with_row n b now row l ∙ ap₂ (λ xs ys. xs ++ ys) q p
    ∙ sym (pair_updated f e s (weights_of n b old) (components_of n b pairs i) _ _ _ _ (same_length n b old pairs i (omega arith) (omega arith)))
    ∙ ap₂ (updated_weights f e s) (sym (weights_more n b old h)) (sym (components_more n b pairs i k))

pub updates_none : (f : ℕ) (e : ℤ) (s : Bool) (b : ℕ) (old now : List (List ℤ)) (pairs : List Pairs) (i : ℕ)
    → weights_of 0 b now ≡ updated_weights f e s (weights_of 0 b old) (components_of 0 b pairs i)
unfolding updated_weights weights_of components_of
updates_none f e s b old now pairs i = refl

-- a pair of weights whose lanes are updated
pub pair_is : (f : ℕ) (e : ℤ) (own predicted row ws us : List ℤ) (b : ℕ) → ((k : ℕ) → k < 16 → lane row k ≡ updated_lane f e own predicted ws us k) → b < 8
    → pair_of b row ≡ updated_weights f e (int_le (lane own b) (lane predicted b)) (pair_of b ws) (pair_of b us)
unfolding updated_weights
pair_is f e own predicted row ws us b h l =
    let even : 2 * b / 2 ≡ b = omega arith in let odd : (2 * b + 1) / 2 ≡ b = omega arith in
    ap₂ (λ x y. x ∷ y ∷ [])
    (h (2 * b) (omega (arith, l)) ∙ ap (λ i. updated_weight f e (int_le (lane own i) (lane predicted i)) (lane ws (2 * b)) (lane us (2 * b))) even)
    (h (2 * b + 1) (omega (arith, l)) ∙ ap (λ i. updated_weight f e (int_le (lane own i) (lane predicted i)) (lane ws (2 * b + 1)) (lane us (2 * b + 1))) odd)
