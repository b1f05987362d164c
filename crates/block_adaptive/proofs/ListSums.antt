-- Sums of numbers, and of the numbers from 1 on.
use Rattle.std.proofs.Common.{◌≡◌, ℕ, zero, suc, ◌+◌, ◌*◌, ◌/◌, ◌<◌, ◌≤◌, List, [], ◌∷◌, ◌++◌, length, sum, refl, arith, ◌-◌, take, drop, get_or, ap, ◌∙◌, Fits}
use Rattle.std.proofs.Common.{w16, lit<}
use Rattle.std.specs.List.{AllByRecursion}
use Rattle.std.proofs.lemmas.List.Sums.{sum_by-cons, sum_by-append, sum_by_push}
use Rattle.std.proofs.Math.Seq.{take-add}
use Rattle.std.proofs.Math.Nat.{add-mul-div_right}

pub sum_cons : (v : ℕ) (vs : List ℕ) → sum (v ∷ vs) ≡ v + sum vs
sum_cons v vs = sum_by-cons (λ (x : ℕ). x) v vs

pub sum_append : (vs ws : List ℕ) → sum (vs ++ ws) ≡ sum vs + sum ws
sum_append vs ws = sum_by-append (λ (x : ℕ). x) vs ws

pub sum_push : (vs : List ℕ) (v : ℕ) → sum (vs ++ v ∷ []) ≡ sum vs + v
sum_push vs v = sum_by_push (λ (x : ℕ). x) vs v

pub sum_most : (limit : ℕ) (vs : List ℕ) → AllByRecursion (λ v. v < limit) vs → sum vs ≤ length vs * limit
sum_most limit [] h = omega arith
sum_most limit (v ∷ vs) h = omega (arith, sum_cons v vs, h.0, sum_most limit vs h.1)

-- numbers of 16 bits add up to few
pub sum_small : (list : List ℕ) → ((i : ℕ) → Fits w16 (get_or list i 0)) → sum list ≤ 65536 * length list
sum_small [] h = omega arith
sum_small (v ∷ vs) h = omega (arith, sum_cons v vs, (h 0).fits, sum_small vs (λ i. h (suc i)))

pub sum_front : (n : ℕ) (list : List ℕ) → sum (take n list) ≤ sum list
sum_front zero list = omega arith
sum_front (suc n) [] = omega arith
sum_front (suc n) (v ∷ vs) = omega (arith, sum_cons v (take n vs), sum_cons v vs, sum_front n vs)

pub sum_next : (i n : ℕ) (list : List ℕ) → sum (take (i + n) list) ≡ sum (take i list) + sum (take (i + n - i) (drop i list))
sum_next i n list =
    let e : i + n - i ≡ n = omega arith in
    ap sum (take-add i n list) ∙ sum_append (take i list) (take n (drop i list)) ∙ rw e refl

pub triangle_step : (s : ℕ) → (s + 1) * (s + 1 + 1) / 2 ≡ s * (s + 1) / 2 + (s + 1)
triangle_step s =
    let e : (s + 1) * (s + 1 + 1) ≡ s * (s + 1) + (s + 1) * 2 = omega arith in
    rw e (add-mul-div_right (s * (s + 1)) (s + 1) (lit< tt))

-- what lies below t, by how much
pub triangle_grows : (d s : ℕ) → s * (s + 1) / 2 + s < (s + 1 + d) * (s + 1 + d + 1) / 2
triangle_grows zero s =
    let e : s + 1 + 0 ≡ s + 1 = omega arith in
    rw e (omega (arith, triangle_step s))
triangle_grows (suc d) s =
    let e : s + 1 + suc d ≡ (s + 1 + d) + 1 = omega arith in
    rw e (omega (arith, triangle_step (s + 1 + d), triangle_grows d s))

pub double_triangle : (s : ℕ) → s * (s + 1) / 2 * 2 ≡ s * (s + 1)
double_triangle zero = refl
double_triangle (suc s) =
    let e : suc s ≡ s + 1 = omega arith in
    rw e (omega (arith, triangle_step s, double_triangle s))
