use Rattle.std.proofs.Common.{◌≡◌, ◌<◌, ◌*◌, ◌/◌, ◌%◌, ◌^◌, ℕ, List, map, length, replicate, refl, ap, ap₂, ◌∙◌, arith, w16}
use Rattle.std.proofs.Math.Nat.{mod-eq_of_lt}
use Rattle.std.proofs.lemmas.List.{get_or-map, length-map}
use Rattle.std.proofs.lemmas.Nat.{mul-le}
use Rattle.std.proofs.lemmas.Simd.{Each1-from_get_or}
use lib.Lanes.{zip2}
use Rattle.lanes.specs.Lanes.{number}
use Rattle.lanes.proofs.Plain.{ArePlain, plain, plain_step, plain_step_by, length-step}
use Rattle.lanes.proofs.eight.high_products.Goals as goal

-- the products of all lanes, and their upper halves
abbrev products : List ℕ → List ℕ → List ℕ
products a b = zip2 (λ x y. x * y % 4294967296) (map (λ n. n) a) (map (λ n. n) b)

abbrev halves : List ℕ → List ℕ → List ℕ
halves a b = zip2 (λ x y. x / 2 ^ y) (products a b) (replicate 8 16)

count : (a b : List ℕ) → length a ≡ 8 → length b ≡ 8 → length (products a b) ≡ 8
count a b l m = length-step _ (map (λ n. n) a) (map (λ n. n) b) 8 (length-map a (λ n. n) ∙ l) (length-map b (λ n. n) ∙ m)

half : (a b : List ℕ) (k : ℕ) → ArePlain w16 8 a → ArePlain w16 8 b → k < 8 → number (halves a b) k ≡ number a k * number b k / 65536
half a b k p q lt =
    let l : length (map (λ n. n) a) ≡ 8 = length-map a (λ n. n) ∙ p.0 in let m : length (map (λ n. n) b) ≡ 8 = length-map b (λ n. n) ∙ q.0 in
    let most = mul-le (number a k) (number b k) 65535 65535 (omega (arith, (p.1 k).fits)) (omega (arith, (q.1 k).fits)) in
    plain_step_by (λ x y. x / 2 ^ y) (products a b) 16 8 k (count a b p.0 q.0) lt
    ∙ ap (λ n. n / 65536) (plain_step (λ x y. x * y % 4294967296) (map (λ n. n) a) (map (λ n. n) b) 8 k l m lt
    ∙ ap₂ (λ x y. x * y % 4294967296) (get_or-map (λ n. n) a k 0 0 (omega (arith, p.0, lt))) (get_or-map (λ n. n) b k 0 0 (omega (arith, q.0, lt)))
    ∙ mod-eq_of_lt (omega (arith, most)))

half_fits : (a b : List ℕ) (k : ℕ) → ArePlain w16 8 a → ArePlain w16 8 b → k < 8 → number (halves a b) k < 65536
half_fits a b k p q lt =
    let most = mul-le (number a k) (number b k) 65535 65535 (omega (arith, (p.1 k).fits)) (omega (arith, (q.1 k).fits)) in
    omega (arith, half a b k p q lt, most)

pub overflow_cast-result-3 : goal.overflow_cast-result-3
overflow_cast-result-3 c =
    let a = plain w16 8 c.args.a _ c.well_formed.0 in let b = plain w16 8 c.args.b _ c.well_formed.1.0 in
    let long = length-step (λ x y. x / 2 ^ y) (products c.args.a c.args.b) (replicate 8 16) 8 (count c.args.a c.args.b a.0 b.0) refl in
    Each1-from_get_or _ (halves c.args.a c.args.b) 0 (λ k h. record { fits = half_fits c.args.a c.args.b k a b (omega (arith, h, long)) })

pub returns : goal.returns
returns c k lt =
    let a = plain w16 8 c.args.a _ c.well_formed.0 in let b = plain w16 8 c.args.b _ c.well_formed.1.0 in
    let long = length-step (λ x y. x / 2 ^ y) (products c.args.a c.args.b) (replicate 8 16) 8 (count c.args.a c.args.b a.0 b.0) refl in
    get_or-map (λ n. n) (halves c.args.a c.args.b) k 0 0 (omega (arith, lt, long)) ∙ half c.args.a c.args.b k a b lt
