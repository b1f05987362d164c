-- Lanes of numbers without a sign: what a step puts into each, and the number that it makes.
use Rattle.std.proofs.Common.{ℕ, suc, ◌+◌, ◌-◌, ◌*◌, ◌%◌, ◌^◌, ◌<◌, ◌≤◌, List, map, length, Bool, true, false, cond, ◌≡◌, refl, sym, ap, ap₂, ◌∙◌, arith, bit_and, to_z, of_z, Fits, w16, w32}
use Rattle.std.proofs.lemmas.Nat.{and_mask, pow_pos, pow_below}
use Rattle.std.proofs.lemmas.List.{get_or-map, length-map}
use Rattle.std.proofs.lemmas.Simd.{get_or-sel_l, get_or-zip2, length-zip2, Each1-get_or}
use Rattle.std.proofs.Math.Nat.{mod-lt, pow-succ'}
use Rattle.std.proofs.Math.Pow.{pow_mono}
use Rattle.std.specs.Int.Signed.{lt_z}
use Rattle.std.proofs.lemmas.Int.{to_z_pos}
use mir.Syntax.{Width}
use lib.Dec.{ltb}
use lib.Lanes.{zip2, sel_l, top, Each1}
use Rattle.lanes.specs.Lanes.{number}

-- n numbers
abbrev pub AreCounts : Width → ℕ → List ℕ → Type 0
AreCounts w n v = (length v ≡ n) × Each1 (Fits w) v

pub below : (n k : ℕ) (v : List ℕ) → AreCounts w16 n v → k < n → number v k < 65536
below n k v h within = (Each1-get_or (Fits w16) v k 0 (omega (arith, h.0)) h.1).fits

-- a step on two vectors
pub step : (f : ℕ → ℕ → ℕ) (a b : List ℕ) (n k : ℕ) → length a ≡ n → length b ≡ n → k < n → number (zip2 f a b) k ≡ f (number a k) (number b k)
step f a b n k la lb within = get_or-zip2 f a b k 0 0 0 (omega arith) (omega arith)

pub long : (f : ℕ → ℕ → ℕ) (a b : List ℕ) (n : ℕ) → length a ≡ n → length b ≡ n → length (zip2 f a b) ≡ n
long f a b n la lb = length-zip2 f a b (la ∙ sym lb) ∙ la

-- a step on a vector, and on what another step makes of two
pub step_of_step : (f g : ℕ → ℕ → ℕ) (a b c : List ℕ) (n k : ℕ) → length a ≡ n → length b ≡ n → length c ≡ n → k < n
    → number (zip2 f a (zip2 g b c)) k ≡ f (number a k) (g (number b k) (number c k))
step_of_step f g a b c n k la lb lc within =
    step f a (zip2 g b c) n k la (long g b c n lb lc) within ∙ ap (f (number a k)) (step g b c n k lb lc within)

-- ---- the numbers of steps by a mask

pub twice : (x m : ℕ) → m ≡ 65535 → x < 2 ^ 15 → (x + bit_and x m) % 65536 ≡ 2 * x
twice x m e few = ap (λ y. (x + bit_and x y) % 65536) e ∙ omega (arith, and_mask x 16)

pub not_twice : (x m : ℕ) → m ≡ 0 → x < 65536 → (x + bit_and x m) % 65536 ≡ x
not_twice x m e few = ap (λ y. (x + bit_and x y) % 65536) e ∙ omega (arith, and_mask x 0)

pub lessened : (x y m : ℕ) → m ≡ 65535 → y ≤ x → x < 65536 → (x + (65536 - bit_and y m)) % 65536 ≡ x - y
lessened x y m e le few = ap (λ z. (x + (65536 - bit_and y z)) % 65536) e ∙ omega (arith, and_mask y 16)

pub not_lessened : (x y m : ℕ) → m ≡ 0 → x < 65536 → (x + (65536 - bit_and y m)) % 65536 ≡ x
not_lessened x y m e few = ap (λ z. (x + (65536 - bit_and y z)) % 65536) e ∙ omega (arith, and_mask y 0)

-- ---- the lowest bits and a power

pub rest_and_power_is : (x p by : ℕ) → by < 16 → p ≡ 2 ^ by → (bit_and x ((p + (65536 - 1)) % 65536) + p) % 65536 ≡ 2 ^ by + x % 2 ^ by
rest_and_power_is x p by few e =
    let some = pow_pos by in let most = pow_below by 16 few in let rest = mod-lt x {m = 2 ^ by} some in
    let mask : (2 ^ by + (65536 - 1)) % 65536 ≡ 2 ^ by - 1 = omega arith in
    let twice : 2 ^ (suc by) ≡ 2 * 2 ^ by = pow-succ' 2 by in
    let fits : 2 ^ (suc by) ≤ 2 ^ 16 = pow_mono {i = suc by} {j = 16} (omega (arith, few)) in
    rw (e, mask, and_mask x by) (omega (arith, rest))

-- ---- a comparison of two vectors that are cast

pub chosen_by_casts : (f g : ℕ → ℕ → ℕ) (p q s : ℕ → ℕ) (a b none one other : List ℕ) (n k : ℕ) → length a ≡ n → length b ≡ n → length none ≡ n → length one ≡ n → length other ≡ n → k < n
    → number (sel_l (map (top 15) (map s (zip2 f (zip2 g (map p a) (map q b)) none))) one other) k
    ≡ cond (top 15 (s (f (g (p (number a k)) (q (number b k))) (number none k)))) (number one k) (number other k)
chosen_by_casts f g p q s a b none one other n k la lb lz ly ln within =
    let xs : List ℕ = map p a in let ys : List ℕ = map q b in
    let la' : length xs ≡ n = length-map a p ∙ la in let lb' : length ys ≡ n = length-map b q ∙ lb in
    let inner = long g xs ys n la' lb' in
    let outer = long f (zip2 g xs ys) none n inner lz in
    let cast : length (map s (zip2 f (zip2 g xs ys) none)) ≡ n = length-map (zip2 f (zip2 g xs ys) none) s ∙ outer in
    let tops : length (map (top 15) (map s (zip2 f (zip2 g xs ys) none))) ≡ n = length-map (map s (zip2 f (zip2 g xs ys) none)) (top 15) ∙ cast in
    let least : number (zip2 g xs ys) k ≡ g (p (number a k)) (q (number b k)) =
    step g xs ys n k la' lb' within ∙ ap₂ g (get_or-map p a k 0 0 (omega arith)) (get_or-map q b k 0 0 (omega arith)) in
    let made : number (map s (zip2 f (zip2 g xs ys) none)) k ≡ s (f (g (p (number a k)) (q (number b k))) (number none k)) =
    get_or-map s (zip2 f (zip2 g xs ys) none) k 0 0 (omega arith) ∙ ap s (step f (zip2 g xs ys) none n k inner lz within ∙ ap (λ x. f x (number none k)) least) in
    get_or-sel_l (map (top 15) (map s (zip2 f (zip2 g xs ys) none))) one other k 0 (omega arith) (omega arith) (omega arith)
    ∙ ap (λ t. cond t (number one k) (number other k)) (get_or-map (top 15) (map s (zip2 f (zip2 g xs ys) none)) k 0 false (omega arith) ∙ ap (top 15) made)

-- the mask of a comparison, in 16 bits
pub mask_is : (t : Bool) → cond {A = ℕ} (top 15 (of_z w16 (to_z w32 (cond (lt_z (to_z w32 (cond t 4294967295 0)) (to_z w32 0)) 4294967295 0)))) 65535 0 ≡ cond t 65535 0
mask_is true = refl
mask_is false = refl

pub less_is : (x y : ℕ) → x < 2 ^ 31 → y < 2 ^ 31 → lt_z (to_z w32 x) (to_z w32 y) ≡ ltb x y
less_is x y few small = rw (to_z_pos w32 x few, to_z_pos w32 y small) refl
