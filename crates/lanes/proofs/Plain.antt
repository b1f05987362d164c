-- Lanes of numbers without a sign: what the type of a vector says of them, and what steps put into one.
use Rattle.std.proofs.Common.{ℕ, zero, suc, ◌-◌, ◌^◌, ◌<◌, ◌≤◌, List, [], ◌∷◌, map, length, replicate, Bool, false, cond, ltb, min, max, ◌≡◌, sym, ap, ◌∙◌, arith, rules, inl, inr, bit_or, Fits}
use Rattle.std.proofs.lemmas.Simd.{tops_compared, get_or-sel_l, get_or-zip2, length-zip2, length-sel_l, length-replicate, get_or-replicate}
use Rattle.std.proofs.lemmas.Bool.{cases_lt, lt-ltb, le-ltb}
use Rattle.std.proofs.lemmas.Nat.{le_or_l, le_or_r}
use mir.Syntax.{Width}
use mir.Val.{Val, bits, hbits}
use denote.Array.{Array, each}
use denote.Shadow.{shadow}
use borrow.Kind.Array.{e_int}
use lib.Lanes.{zip2, sel_l, top, fold_l}
use Rattle.lanes.specs.Lanes.{number}

each_fits : (w : Width) (v : List ℕ) (us : List Val) (k : ℕ) → shadow (each ℕ (e_int w).ty.own_val v us) → Fits w (number v k)
each_fits w [] us k p = search rules
each_fits w (x ∷ v) [] k p = absurd p
each_fits w (x ∷ v) (u ∷ us) zero p = record { fits = p.0.1 }
each_fits w (x ∷ v) (u ∷ us) (suc k) p = each_fits w v us k p.1

-- a list of n numbers that fit w
abbrev pub ArePlain : Width → ℕ → List ℕ → Type 0
ArePlain w n v = (length v ≡ n) × ((k : ℕ) → Fits w (number v k))

pub plain : (w : Width) (n : ℕ) (v : List ℕ) (vs : List Val) → shadow ((Array (e_int w).ty n).own_val v vs) → ArePlain w n v
plain w n v vs p = (p.1.0.1, λ k. each_fits w v p.0 k p.1.1)

-- a step on two vectors
pub plain_step : (f : ℕ → ℕ → ℕ) (xs ys : List ℕ) (n k : ℕ) → length xs ≡ n → length ys ≡ n → k < n → number (zip2 f xs ys) k ≡ f (number xs k) (number ys k)
plain_step f xs ys n k x y lt = get_or-zip2 f xs ys k 0 0 0 (omega arith) (omega arith)

-- the lesser or the greater of two lanes
abbrev pub below : Width → List ℕ → List ℕ → List Bool
below w xs ys = map (top (hbits w)) (zip2 (λ a b. cond (ltb a b) (2 ^ bits w - 1) 0) xs ys)

chosen : (w : Width) (xs ys p q : List ℕ) (n k : ℕ) → length xs ≡ n → length ys ≡ n → length p ≡ n → length q ≡ n → k < n
    → number (sel_l (below w xs ys) p q) k ≡ cond (ltb (number xs k) (number ys k)) (number p k) (number q k)
chosen w xs ys p q n k x y a b lt =
    let l : length (zip2 ltb xs ys) ≡ n = length-zip2 ltb xs ys (x ∙ sym y) ∙ x in
    ap (λ ms. number (sel_l ms p q) k) (tops_compared w ltb xs ys)
    ∙ get_or-sel_l (zip2 ltb xs ys) p q k 0 (omega arith) (omega arith) (omega arith)
    ∙ ap (λ t. cond t (number p k) (number q k)) (get_or-zip2 ltb xs ys k 0 0 false (omega arith) (omega arith))

pub length-chosen : (w : Width) (xs ys p q : List ℕ) (n : ℕ) → length xs ≡ n → length ys ≡ n → length p ≡ n → length q ≡ n → length (sel_l (below w xs ys) p q) ≡ n
length-chosen w xs ys p q n x y a b =
    let l : length (below w xs ys) ≡ n = ap length (tops_compared w ltb xs ys) ∙ length-zip2 ltb xs ys (x ∙ sym y) ∙ x in
    length-sel_l (below w xs ys) p q (l ∙ sym a) (l ∙ sym b) ∙ l

lesser : (x y : ℕ) → cond (ltb x y) x y ≡ min x y
lesser x y = elim (cases_lt x y) [ inl l ↦ rw (lt-ltb x y l) (omega arith) | inr g ↦ rw (le-ltb x y g) (omega arith) ]

greater : (x y : ℕ) → cond (ltb x y) y x ≡ max y x
greater x y = elim (cases_lt x y) [ inl l ↦ rw (lt-ltb x y l) (omega arith) | inr g ↦ rw (le-ltb x y g) (omega arith) ]

pub least_of : (w : Width) (xs ys : List ℕ) (n k : ℕ) → length xs ≡ n → length ys ≡ n → k < n → number (sel_l (below w xs ys) xs ys) k ≡ min (number xs k) (number ys k)
least_of w xs ys n k x y lt = chosen w xs ys xs ys n k x y x y lt ∙ lesser (number xs k) (number ys k)

pub greatest_of : (w : Width) (xs ys : List ℕ) (n k : ℕ) → length xs ≡ n → length ys ≡ n → k < n → number (sel_l (below w xs ys) ys xs) k ≡ max (number ys k) (number xs k)
greatest_of w xs ys n k x y lt = chosen w xs ys ys xs n k x y y x lt ∙ greater (number xs k) (number ys k)

-- a number in each lane
pub splat : (n k v : ℕ) → k < n → number (replicate n v) k ≡ v
splat n k v lt = get_or-replicate n k v 0 lt

-- a step on a vector, and on the same number in each lane
pub plain_step_by : (f : ℕ → ℕ → ℕ) (xs : List ℕ) (v n k : ℕ) → length xs ≡ n → k < n → number (zip2 f xs (replicate n v)) k ≡ f (number xs k) v
plain_step_by f xs v n k x lt = plain_step f xs (replicate n v) n k x (length-replicate n v) lt ∙ ap (f (number xs k)) (splat n k v lt)

pub plain_step_on : (f : ℕ → ℕ → ℕ) (v : ℕ) (ys : List ℕ) (n k : ℕ) → length ys ≡ n → k < n → number (zip2 f (replicate n v) ys) k ≡ f v (number ys k)
plain_step_on f v ys n k y lt = plain_step f (replicate n v) ys n k (length-replicate n v) y lt ∙ ap (λ a. f a (number ys k)) (splat n k v lt)

pub length-step : (f : ℕ → ℕ → ℕ) (xs ys : List ℕ) (n : ℕ) → length xs ≡ n → length ys ≡ n → length (zip2 f xs ys) ≡ n
length-step f xs ys n x y = length-zip2 f xs ys (x ∙ sym y) ∙ x

-- the bits of all lanes together are no fewer than those of one
all_bits : (acc : ℕ) (xs : List ℕ) → acc ≤ fold_l bit_or acc xs
all_bits acc [] = omega arith
all_bits acc (x ∷ xs) = omega (arith, all_bits (bit_or acc x) xs, le_or_l acc x)

pub lane_bits : (acc k : ℕ) (xs : List ℕ) → number xs k ≤ fold_l bit_or acc xs
lane_bits acc k [] = omega arith
lane_bits acc zero (x ∷ xs) = omega (arith, all_bits (bit_or acc x) xs, le_or_r acc x)
lane_bits acc (suc k) (x ∷ xs) = lane_bits (bit_or acc x) k xs
