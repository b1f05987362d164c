-- A lane of what a step makes, from the bits of lanes.
use Rattle.std.proofs.Common.{ℕ, zero, suc, ◌+◌, ◌-◌, ◌^◌, ◌<◌, ℤ, pos, List, [], ◌∷◌, ◌++◌, map, length, get_or, replicate, Bool, true, false, cond, ◌≡◌, refl, sym, ap, ap₂, ◌∙◌, subst, arith, T, not, to_z, of_z, SFits}
use Rattle.std.specs.Int.{int_min, int_max}
use Rattle.std.specs.Int.Signed.{lt_z, lt_z_yes, lt_z_no}
use Rattle.std.proofs.lemmas.Int.{ints, clamps, to_z-of_z}
use Rattle.std.proofs.lemmas.List.{get_or-map, length-map}
use Rattle.std.proofs.lemmas.Simd.{tops_compared, get_or-sel_l, get_or-zip2, length-zip2, length-sel_l, length-replicate, get_or-replicate}
use mir.Syntax.{Width}
use mir.Val.{bits, hbits}
use lib.Lanes.{zip2, sel_l, top}
use Rattle.lanes.specs.Lanes.{lane}

pub number : (w : Width) (xs : List ℕ) (k : ℕ) → k < length xs → lane (map (to_z w) xs) k ≡ to_z w (get_or xs k 0)
number w xs k h = get_or-map (to_z w) xs k 0 (pos 0) h

pub bits_of : (w : Width) (v : List ℤ) (k : ℕ) → k < length v → get_or (map (of_z w) v) k 0 ≡ of_z w (lane v k)
bits_of w v k h = get_or-map (of_z w) v k (pos 0) 0 h

-- a step on two lists of bits
pub step : (w : Width) (f : ℕ → ℕ → ℕ) (xs ys : List ℕ) (n k : ℕ) → length xs ≡ n → length ys ≡ n → k < n
    → lane (map (to_z w) (zip2 f xs ys)) k ≡ to_z w (f (get_or xs k 0) (get_or ys k 0))
step w f xs ys n k x y h =
    number w (zip2 f xs ys) k (omega (arith, length-zip2 f xs ys (x ∙ sym y))) ∙ ap (to_z w) (get_or-zip2 f xs ys k 0 0 0 (omega arith) (omega arith))

-- a step on a vector, and on the same number in each lane
pub step_by_one : (w : Width) (f : ℕ → ℕ → ℕ) (a : List ℤ) (y n k : ℕ) → length a ≡ n → k < n
    → lane (map (to_z w) (zip2 f (map (of_z w) a) (replicate n y))) k ≡ to_z w (f (of_z w (lane a k)) y)
step_by_one w f a y n k l h =
    step w f (map (of_z w) a) (replicate n y) n k (length-map a (of_z w) ∙ l) (length-replicate n y) h
    ∙ ap₂ (λ p q. to_z w (f p q)) (bits_of w a k (omega arith)) (get_or-replicate n k y 0 h)

-- a step on two vectors
pub step_of_two : (w : Width) (f : ℕ → ℕ → ℕ) (a b : List ℤ) (n k : ℕ) → length a ≡ n → length b ≡ n → k < n
    → lane (map (to_z w) (zip2 f (map (of_z w) a) (map (of_z w) b))) k ≡ to_z w (f (of_z w (lane a k)) (of_z w (lane b k)))
step_of_two w f a b n k l m h =
    step w f (map (of_z w) a) (map (of_z w) b) n k (length-map a (of_z w) ∙ l) (length-map b (of_z w) ∙ m) h
    ∙ ap₂ (λ p q. to_z w (f p q)) (bits_of w a k (omega arith)) (bits_of w b k (omega arith))

-- the bits of a vector in another width
abbrev pub cast_bits : (v w : Width) → List ℤ → List ℕ
cast_bits v w a = map (λ n. of_z w (to_z v n)) (map (of_z v) a)

pub length-cast_bits : (v w : Width) (a : List ℤ) → length (cast_bits v w a) ≡ length a
length-cast_bits v w a = length-map (map (of_z v) a) (λ n. of_z w (to_z v n)) ∙ length-map a (of_z v)

pub bits_of_cast : (v w : Width) (a : List ℤ) (k : ℕ) → SFits v (lane a k) → k < length a → get_or (cast_bits v w a) k 0 ≡ of_z w (lane a k)
bits_of_cast v w a k f h =
    get_or-map (λ n. of_z w (to_z v n)) (map (of_z v) a) k 0 0 (omega (arith, length-map a (of_z v)))
    ∙ ap (λ n. of_z w (to_z v n)) (bits_of v a k h) ∙ ap (of_z w) (to_z-of_z v (lane a k) f)

-- a step on two vectors in another width
pub step_of_casts : (v w : Width) (f : ℕ → ℕ → ℕ) (a b : List ℤ) (n k : ℕ) → length a ≡ n → length b ≡ n → SFits v (lane a k) → SFits v (lane b k) → k < n
    → lane (map (to_z w) (zip2 f (cast_bits v w a) (cast_bits v w b))) k ≡ to_z w (f (of_z w (lane a k)) (of_z w (lane b k)))
step_of_casts v w f a b n k l m p q h =
    step w f (cast_bits v w a) (cast_bits v w b) n k (length-cast_bits v w a ∙ l) (length-cast_bits v w b ∙ m) h
    ∙ ap₂ (λ p q. to_z w (f p q)) (bits_of_cast v w a k p (omega arith)) (bits_of_cast v w b k q (omega arith))

-- a vector that goes to its bits and back
pub kept : (w : Width) (v : List ℤ) (k : ℕ) → ((k : ℕ) → SFits w (lane v k)) → lane (map (to_z w) (map (of_z w) v)) k ≡ lane v k
kept w [] k f = refl
kept w (x ∷ v) zero f = to_z-of_z w x (f 0)
kept w (x ∷ v) (suc k) f = kept w v k (λ j. f (suc j))

-- ---- a choice by a comparison

abbrev pub is_below : Width → ℕ → ℕ → Bool
is_below w x y = lt_z (to_z w x) (to_z w y)

abbrev pub tested : Width → List ℕ → List ℕ → List Bool
tested w xs ys = map (top (hbits w)) (zip2 (λ a b. cond (is_below w a b) (2 ^ bits w - 1) 0) xs ys)

tested_is : (w : Width) (xs ys : List ℕ) → tested w xs ys ≡ zip2 (is_below w) xs ys
tested_is w xs ys = tops_compared w (is_below w) xs ys

pub length-chosen : (w : Width) (xs ys p q : List ℕ) (n : ℕ) → length xs ≡ n → length ys ≡ n → length p ≡ n → length q ≡ n
    → length (sel_l (tested w xs ys) p q) ≡ n
length-chosen w xs ys p q n x y a b =
    let l : length (tested w xs ys) ≡ n = ap length (tested_is w xs ys) ∙ length-zip2 (is_below w) xs ys (x ∙ sym y) ∙ x in
    length-sel_l (tested w xs ys) p q (l ∙ sym a) (l ∙ sym b) ∙ l

pub chosen : (w : Width) (xs ys p q : List ℕ) (n k : ℕ) → length xs ≡ n → length ys ≡ n → length p ≡ n → length q ≡ n → k < n
    → get_or (sel_l (tested w xs ys) p q) k 0 ≡ cond (is_below w (get_or xs k 0) (get_or ys k 0)) (get_or p k 0) (get_or q k 0)
chosen w xs ys p q n k x y a b h =
    let l : length (zip2 (is_below w) xs ys) ≡ n = length-zip2 (is_below w) xs ys (x ∙ sym y) ∙ x in
    ap (λ ms. get_or (sel_l ms p q) k 0) (tested_is w xs ys)
    ∙ get_or-sel_l (zip2 (is_below w) xs ys) p q k 0 (omega arith) (omega arith) (omega arith)
    ∙ ap (λ t. cond t (get_or p k 0) (get_or q k 0)) (get_or-zip2 (is_below w) xs ys k 0 0 false (omega arith) (omega arith))

number_of_chosen : (w : Width) (t : Bool) (x y : ℕ) → to_z w (cond t x y) ≡ cond t (to_z w x) (to_z w y)
number_of_chosen w true x y = refl
number_of_chosen w false x y = refl

-- one number or another, by the lanes of two vectors
pub choice : (w : Width) (a b : List ℤ) (one other : ℤ) (n k : ℕ) → length a ≡ n → length b ≡ n → SFits w (lane a k) → SFits w (lane b k) → SFits w one → SFits w other → k < n
    → lane (map (to_z w) (sel_l (tested w (map (of_z w) a) (map (of_z w) b)) (replicate n (of_z w one)) (replicate n (of_z w other)))) k
    ≡ cond (lt_z (lane a k) (lane b k)) one other
choice w a b one other n k l m p q y z h =
    let xs : List ℕ = map (of_z w) a in let ys : List ℕ = map (of_z w) b in
    let lx : length xs ≡ n = length-map a (of_z w) ∙ l in let ly : length ys ≡ n = length-map b (of_z w) ∙ m in
    let t : List ℕ = replicate n (of_z w one) in let f : List ℕ = replicate n (of_z w other) in
    let lt = length-replicate n (of_z w one) in let lf = length-replicate n (of_z w other) in
    let bx : to_z w (get_or xs k 0) ≡ lane a k = ap (to_z w) (bits_of w a k (omega arith)) ∙ to_z-of_z w (lane a k) p in
    let by : to_z w (get_or ys k 0) ≡ lane b k = ap (to_z w) (bits_of w b k (omega arith)) ∙ to_z-of_z w (lane b k) q in
    let long : length (sel_l (tested w xs ys) t f) ≡ n = length-chosen w xs ys t f n lx ly lt lf in
    number w (sel_l (tested w xs ys) t f) k (omega arith)
    ∙ ap (to_z w) (chosen w xs ys t f n k lx ly lt lf h) ∙ number_of_chosen w (is_below w (get_or xs k 0) (get_or ys k 0)) (get_or t k 0) (get_or f k 0)
    ∙ ap₂ (λ p q. cond (is_below w (get_or xs k 0) (get_or ys k 0)) p q) (ap (to_z w) (get_or-replicate n k (of_z w one) 0 h) ∙ to_z-of_z w one y)
    (ap (to_z w) (get_or-replicate n k (of_z w other) 0 h) ∙ to_z-of_z w other z)
    ∙ ap₂ (λ p q. cond (lt_z p q) one other) bx by

lesser : (x y : ℤ) (t : Bool) → lt_z x y ≡ t → cond t x y ≡ int_min x y
lesser x y true e = let h = lt_z_yes {a = x} {b = y} (subst T (sym e) tt) in omega (arith, ints, clamps)
lesser x y false e = let h = lt_z_no {a = x} {b = y} (subst (λ t. T (not t)) (sym e) tt) in omega (arith, ints, clamps)

-- the lesser of two lanes
pub least_of : (w : Width) (xs ys : List ℕ) (n k : ℕ) → length xs ≡ n → length ys ≡ n → k < n
    → to_z w (get_or (sel_l (tested w xs ys) xs ys) k 0) ≡ int_min (to_z w (get_or xs k 0)) (to_z w (get_or ys k 0))
least_of w xs ys n k x y h =
    ap (to_z w) (chosen w xs ys xs ys n k x y x y h) ∙ number_of_chosen w (is_below w (get_or xs k 0) (get_or ys k 0)) (get_or xs k 0) (get_or ys k 0)
    ∙ lesser (to_z w (get_or xs k 0)) (to_z w (get_or ys k 0)) _ refl

-- the greater of two lanes
pub greatest_of : (w : Width) (xs ys : List ℕ) (n k : ℕ) → length xs ≡ n → length ys ≡ n → k < n
    → to_z w (get_or (sel_l (tested w xs ys) ys xs) k 0) ≡ int_max (to_z w (get_or ys k 0)) (to_z w (get_or xs k 0))
greatest_of w xs ys n k x y h =
    ap (to_z w) (chosen w xs ys ys xs n k x y y x h) ∙ number_of_chosen w (is_below w (get_or xs k 0) (get_or ys k 0)) (get_or ys k 0) (get_or xs k 0)

-- the lanes of a vector, held between two numbers
pub between : (w : Width) (v : List ℤ) (most least : ℕ) (n k : ℕ) → ((k : ℕ) → SFits w (lane v k)) → length v ≡ n → k < n
    → lane (map (to_z w) (sel_l (tested w (sel_l (tested w (map (of_z w) v) (replicate n most)) (map (of_z w) v) (replicate n most)) (replicate n least))
    (replicate n least) (sel_l (tested w (map (of_z w) v) (replicate n most)) (map (of_z w) v) (replicate n most)))) k
    ≡ int_max (to_z w least) (int_min (lane v k) (to_z w most))
between w v most least n k fits l h =
    let b : List ℕ = map (of_z w) v in let m : List ℕ = replicate n most in let f : List ℕ = replicate n least in
    let lb : length b ≡ n = length-map v (of_z w) ∙ l in let lm = length-replicate n most in let lf = length-replicate n least in
    let low : List ℕ = sel_l (tested w b m) b m in let ll : length low ≡ n = length-chosen w b m b m n lb lm lb lm in
    let whole : length (sel_l (tested w low f) f low) ≡ n = length-chosen w low f f low n ll lf lf ll in
    number w (sel_l (tested w low f) f low) k (omega arith) ∙ greatest_of w low f n k ll lf h
    ∙ ap₂ int_max (ap (to_z w) (get_or-replicate n k least 0 h))
    (least_of w b m n k lb lm h ∙ ap₂ int_min (ap (to_z w) (bits_of w v k (omega arith)) ∙ to_z-of_z w (lane v k) (fits k)) (ap (to_z w) (get_or-replicate n k most 0 h)))

-- ---- lanes by their places in two vectors

picked_of_first : (w : Width) (a : List ℤ) (ys : List ℕ) (i : ℕ) → i < length a → get_or (map (of_z w) a ++ ys) i 0 ≡ of_z w (lane a i)
picked_of_first w [] ys i h = absurd (omega arith)
picked_of_first w (x ∷ a) ys zero h = refl
picked_of_first w (x ∷ a) ys (suc i) h = picked_of_first w a ys i (omega arith)

picked_of_second : (w : Width) (a : List ℤ) (ys : List ℕ) (i j : ℕ) → i ≡ length a + j → get_or (map (of_z w) a ++ ys) i 0 ≡ get_or ys j 0
picked_of_second w [] ys i j h = ap (λ l. get_or ys l 0) (omega arith)
picked_of_second w (x ∷ a) ys zero j h = absurd (omega arith)
picked_of_second w (x ∷ a) ys (suc i) j h = picked_of_second w a ys i j (omega arith)

pub at_first : (w : Width) (a b : List ℤ) (n i : ℕ) → length a ≡ n → ((k : ℕ) → SFits w (lane a k)) → i < n → to_z w (get_or (map (of_z w) a ++ map (of_z w) b) i 0) ≡ lane a i
at_first w a b n i l fits h = ap (to_z w) (picked_of_first w a (map (of_z w) b) i (omega arith)) ∙ to_z-of_z w (lane a i) (fits i)

pub at_second : (w : Width) (a b : List ℤ) (n i j : ℕ) → length a ≡ n → length b ≡ n → ((k : ℕ) → SFits w (lane b k)) → i < n → j ≡ n + i
    → to_z w (get_or (map (of_z w) a ++ map (of_z w) b) j 0) ≡ lane b i
at_second w a b n i j l m fits h e =
    ap (to_z w) (picked_of_second w a (map (of_z w) b) j i (omega arith) ∙ bits_of w b i (omega arith)) ∙ to_z-of_z w (lane b i) (fits i)

pub picked : (w : Width) (a b : List ℤ) (places : List ℕ) (n k i : ℕ) → length a ≡ n → ((k : ℕ) → SFits w (lane a k)) → k < length places → get_or places k 0 ≡ i → i < n
    → lane (map (λ j. to_z w (get_or (map (of_z w) a ++ map (of_z w) b) j 0)) places) k ≡ lane a i
picked w a b places n k i l fits within e h =
    get_or-map (λ j. to_z w (get_or (map (of_z w) a ++ map (of_z w) b) j 0)) places k 0 (pos 0) within
    ∙ ap (λ j. to_z w (get_or (map (of_z w) a ++ map (of_z w) b) j 0)) e ∙ at_first w a b n i l fits h

pub picked_beyond : (w : Width) (a b : List ℤ) (places : List ℕ) (n k i : ℕ) → length a ≡ n → length b ≡ n → ((k : ℕ) → SFits w (lane b k)) → k < length places
    → get_or places k 0 ≡ n + i → i < n → lane (map (λ j. to_z w (get_or (map (of_z w) a ++ map (of_z w) b) j 0)) places) k ≡ lane b i
picked_beyond w a b places n k i l m fits within e h =
    get_or-map (λ j. to_z w (get_or (map (of_z w) a ++ map (of_z w) b) j 0)) places k 0 (pos 0) within ∙ at_second w a b n i (get_or places k 0) l m fits h e

-- what holds of each of two
pub two : (P : ℕ → Type 0) → P 0 → P 1 → (k : ℕ) → k < 2 → P k
two P a b zero l = a
two P a b (suc zero) l = b
two P a b (suc (suc k)) l = absurd (omega arith)

-- what holds of each of eight
pub eight : (P : ℕ → Type 0) → P 0 → P 1 → P 2 → P 3 → P 4 → P 5 → P 6 → P 7 → (k : ℕ) → k < 8 → P k
eight P a b c d e f g h zero l = a
eight P a b c d e f g h (suc zero) l = b
eight P a b c d e f g h (suc (suc zero)) l = c
eight P a b c d e f g h (suc (suc (suc zero))) l = d
eight P a b c d e f g h (suc (suc (suc (suc zero)))) l = e
eight P a b c d e f g h (suc (suc (suc (suc (suc zero))))) l = f
eight P a b c d e f g h (suc (suc (suc (suc (suc (suc zero)))))) l = g
eight P a b c d e f g h (suc (suc (suc (suc (suc (suc (suc zero))))))) l = h
eight P a b c d e f g h (suc (suc (suc (suc (suc (suc (suc (suc k)))))))) l = absurd (omega arith)

pub same : (w : Width) (v : List ℤ) → ((k : ℕ) → SFits w (lane v k)) → map (to_z w) (map (of_z w) v) ≡ v
same w [] f = refl
same w (x ∷ v) f = ap₂ (λ y ys. y ∷ ys) (to_z-of_z w x (f 0)) (same w v (λ k. f (suc k)))
