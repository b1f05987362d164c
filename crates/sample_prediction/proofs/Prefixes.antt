-- Products and updates of the first weights and differences of a room.
use Rattle.std.proofs.Common.{◌≡◌, ℕ, zero, suc, ◌+◌, ◌-◌, ◌<◌, ◌≤◌, List, [], ◌∷◌, ◌++◌, length, take, drop, set, get_or, replicate, ℤ, pos, ◌+ℤ◌, ◌*ℤ◌, Bool}
use Rattle.std.proofs.Common.{refl, sym, ap, ◌∙◌, arith, add-one, drop-cons, subst}
use Rattle.std.proofs.lemmas.Int.{ints}
use Rattle.std.proofs.lemmas.List.{length-take-le, take-replicate}
use Rattle.std.proofs.Math.Seq.{take-suc-set, take-suc, take-append-add}
use Rattle.sample_prediction.specs.Weights.{updated_weight, updated_weights}
use Rattle.sample_prediction.specs.Prediction.{inner_product}
use Rattle.sample_prediction.proofs.Padding.{padded_product, padded_update}
use Rattle.sample_prediction.proofs.Products.{same_heads}

pub product_more : (ws us : List ℤ) (w u : ℤ) → length ws ≡ length us → inner_product (ws ++ w ∷ []) (us ++ u ∷ []) ≡ inner_product ws us +ℤ w *ℤ u
unfolding inner_product
product_more [] [] w u e = omega (arith, ints)
product_more [] (y ∷ us) w u e = absurd (omega (arith, e))
product_more (x ∷ ws) [] w u e = absurd (omega (arith, e))
product_more (x ∷ ws) (y ∷ us) w u e = rw (product_more ws us w u (omega (arith, e))) (joined (x *ℤ y) (inner_product ws us) (w *ℤ u))
  where
    joined : (a b c : ℤ) → a +ℤ (b +ℤ c) ≡ (a +ℤ b) +ℤ c
    joined a b c = omega (arith, ints)

pub update_more : (f : ℕ) (e : ℤ) (n : Bool) (ws us : List ℤ) (w u : ℤ) → length ws ≡ length us
    → updated_weights f e n (ws ++ w ∷ []) (us ++ u ∷ []) ≡ updated_weights f e n ws us ++ updated_weight f e n w u ∷ []
unfolding updated_weights
update_more f e n [] [] w u h = refl
update_more f e n [] (y ∷ us) w u h = absurd (omega (arith, h))
update_more f e n (x ∷ ws) [] w u h = absurd (omega (arith, h))
update_more f e n (x ∷ ws) (y ∷ us) w u h = ap (λ xs. updated_weight f e n x y ∷ xs) (update_more f e n ws us w u (omega (arith, h)))

same_length : (i : ℕ) (ws us : List ℤ) → i < length ws → i < length us → length (take i ws) ≡ length (take i us)
same_length i ws us h k = length-take-le i ws (omega arith) ∙ sym (length-take-le i us (omega arith))

pub product_next : (ws us : List ℤ) (i : ℕ) (sum : ℤ) → i < length ws → i < length us → sum ≡ inner_product (take i ws) (take i us)
    → sum +ℤ get_or ws i (pos 0) *ℤ get_or us i (pos 0) ≡ inner_product (take (i + 1) ws) (take (i + 1) us)
product_next ws us i sum h k e =
    let m = product_more (take i ws) (take i us) (get_or ws i (pos 0)) (get_or us i (pos 0)) (same_length i ws us h k) in
    rw (add-one, take-suc ws i (pos 0) h, take-suc us i (pos 0) k, m, ← e) refl

pub product_none : (ws us : List ℤ) → pos 0 ≡ inner_product (take 0 ws) (take 0 us)
unfolding inner_product
product_none ws us = refl

-- what was not yet written is as before
pub kept_at : (old now : List ℤ) (i : ℕ) → i < length now → i < length old → drop i now ≡ drop i old → get_or now i (pos 0) ≡ get_or old i (pos 0)
kept_at old now i h k e = (same_heads _ _ _ _ (sym (drop-cons now i (pos 0) h) ∙ e ∙ drop-cons old i (pos 0) k)).0

pub update_next : (f : ℕ) (e : ℤ) (n : Bool) (old us now : List ℤ) (i : ℕ) (v : ℤ) → i < length now → i < length old → i < length us → drop i now ≡ drop i old
    → v ≡ updated_weight f e n (get_or now i (pos 0)) (get_or us i (pos 0)) → take i now ≡ updated_weights f e n (take i old) (take i us)
    → take (i + 1) (set now i v) ≡ updated_weights f e n (take (i + 1) old) (take (i + 1) us)
update_next f e n old us now i v h k l d a b =
    let w = kept_at old now i h k d in
    let m = update_more f e n (take i old) (take i us) (get_or old i (pos 0)) (get_or us i (pos 0)) (same_length i old us k l) in
    rw (add-one, take-suc-set now i v h, take-suc old i (pos 0) k, take-suc us i (pos 0) l, m, ← w, ← a, b) refl

pub update_none : (f : ℕ) (e : ℤ) (n : Bool) (ws us : List ℤ) → take 0 ws ≡ updated_weights f e n (take 0 ws) (take 0 us)
unfolding updated_weights
update_none f e n ws us = refl

-- ---- from so many of the room to those in use

take_of_take : (xs : List ℤ) (n m : ℕ) → n ≤ m → take n (take m xs) ≡ take n xs
take_of_take [] zero m h = refl
take_of_take [] (suc n) zero h = absurd (omega arith)
take_of_take [] (suc n) (suc m) h = refl
take_of_take (x ∷ xs) zero m h = refl
take_of_take (x ∷ xs) (suc n) zero h = absurd (omega arith)
take_of_take (x ∷ xs) (suc n) (suc m) h = ap (λ ys. x ∷ ys) (take_of_take xs n m (omega arith))

pub take_padded : (us : List ℤ) (n m k : ℕ) → length us ≡ n → n ≤ m → m ≤ n + k → take m (us ++ replicate k (pos 0)) ≡ us ++ replicate (m - n) (pos 0)
take_padded us n m k e h l =
    let s : length us + (m - n) ≡ m = omega (arith, e) in subst (λ j. take j (us ++ replicate k (pos 0)) ≡ us ++ replicate (m - n) (pos 0)) s
    (take-append-add us (replicate k (pos 0)) (m - n) ∙ ap (λ ys. us ++ ys) (take-replicate (m - n) k (pos 0) (omega (arith, e))))

pub product_in_use : (ws us : List ℤ) (n m k : ℕ) (r : ℤ) → length us ≡ n → n ≤ m → m ≤ n + k
    → r ≡ inner_product (take m ws) (take m (us ++ replicate k (pos 0)))
    → r ≡ inner_product (take n ws) us
product_in_use ws us n m k r e h l a =
    a ∙ ap (inner_product (take m ws)) (take_padded us n m k e h l) ∙ padded_product (take m ws) us (m - n)
    ∙ ap (λ xs. inner_product xs us) (ap (λ j. take j (take m ws)) e ∙ take_of_take ws n m h)

pub update_in_use : (f : ℕ) (e : ℤ) (neg : Bool) (ws us new : List ℤ) (n m k : ℕ) → length us ≡ n → n ≤ m → m ≤ n + k
    → take m new ≡ updated_weights f e neg (take m ws) (take m (us ++ replicate k (pos 0))) → take n new ≡ updated_weights f e neg (take n ws) us
update_in_use f e neg ws us new n m k d h l a =
    sym (take_of_take new n m h)
    ∙ ap (take n) (a ∙ ap (updated_weights f e neg (take m ws)) (take_padded us n m k d h l))
    ∙ ap (λ j. take j (updated_weights f e neg (take m ws) (us ++ replicate (m - n) (pos 0)))) (sym d)
    ∙ padded_update f e neg (take m ws) us (replicate (m - n) (pos 0))
    ∙ ap (λ xs. updated_weights f e neg xs us) (ap (λ j. take j (take m ws)) d ∙ take_of_take ws n m h)

pub nothing_in_use : (n : ℕ) (ws us : List ℤ) → n ≡ 0 → length us ≡ n → pos 0 ≡ inner_product (take n ws) us
unfolding inner_product
nothing_in_use n ws [] e h = rw e refl
nothing_in_use n ws (u ∷ us) e h = absurd (omega (arith, e, h))
