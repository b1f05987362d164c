-- How the cost of split-sample falls and rises along k.
use Rattle.std.proofs.Common.{◌≡◌, ℕ, zero, suc, ◌+◌, ◌*◌, ◌/◌, ◌^◌, ◌<◌, ◌≤◌, List, [], ◌∷◌, length, subst, inl, inr, arith, lit<}
use Rattle.std.proofs.lemmas.Bool.{cases_lt}
use Rattle.std.proofs.lemmas.Nat.{mul-le, pow_pos}
use Rattle.std.proofs.Math.Nat.{pow-succ', pow-le-pow_right}
use Rattle.block_adaptive.specs.declared.options.CodeSet.{CodeSet}
use Rattle.block_adaptive.specs.declared.options.Choice.TheVariants.{Second, Split}
use Rattle.block_adaptive.specs.Options.{quotient_codes, pair_codes, pair_number, cost}
use Rattle.block_adaptive.proofs.Costs.{quotients_cons, pairs_more, second_cost, split_cost}
use Rattle.block_adaptive.proofs.Powers.{falls_one, rises_one}
use Rattle.block_adaptive.proofs.Zeros.{length-fundamental}

-- ---- the quotients of a block

falls_sum : (k : ℕ) (vs : List ℕ) → length (quotient_codes 0 vs) + 2 * 2 ^ k * length (quotient_codes (suc k) vs) ≤ 2 * 2 ^ k * length
    (quotient_codes k vs) + 2 * 2 ^ k * length vs
unfolding quotient_codes
falls_sum k [] = omega arith
falls_sum k (v ∷ vs) = rw (quotients_cons 0 v vs, quotients_cons k v vs, quotients_cons (suc k) v vs) (omega (arith, falls_one v k, falls_sum k vs))

rises_sum : (k : ℕ) (vs : List ℕ) → 2 * 2 ^ k * length (quotient_codes k vs) + length vs ≤ 2 * 2 ^ k * length (quotient_codes (suc k) vs) + length
    (quotient_codes 0 vs) + 2 ^ k * length vs
unfolding quotient_codes
rises_sum k [] = omega arith
rises_sum k (v ∷ vs) = rw (quotients_cons 0 v vs, quotients_cons k v vs, quotients_cons (suc k) v vs) (omega (arith, rises_one v k, rises_sum k vs))

-- ---- the cost

-- up to a k under which the values' sum is great, each next k is shorter
falls : (s : CodeSet) (k most sum : ℕ) (vs : List ℕ) → length (quotient_codes 0 vs) ≡ sum + length vs → length vs * 2 ^ suc most < sum → suc k ≤ most
    → cost s (Split (suc k)) vs < cost s (Split k) vs
falls s k most sum vs whole great le =
    let h : ℕ = 2 ^ k in
    let q : ℕ = length (quotient_codes k vs) in
    let r : ℕ = length (quotient_codes (suc k) vs) in
    elim (cases_lt (cost s (Split (suc k)) vs) _) [
      | inl lt ↦ lt
      | inr ge ↦
          (let near : q ≤ r + length vs = omega (arith, split_cost s k vs, split_cost s (suc k) vs) in
          let times : h * q ≤ h * (r + length vs) = mul-le _ _ _ _ (omega arith) near in
          let four : 2 ^ suc (suc k) ≡ 4 * h = (let a = pow-succ' 2 k in let b = pow-succ' 2 (suc k) in omega arith) in
          let wide : 4 * h ≤ 2 ^ suc most = subst (λ (p : ℕ). p ≤ 2 ^ suc most) four (pow-le-pow_right {n = 2} (lit< tt) {i = suc (suc k)} {j = suc most}
          (omega arith)) in
          let all : length vs * (4 * h) ≤ length vs * 2 ^ suc most = mul-le _ _ _ (2 ^ suc most) (omega arith) wide in
          absurd (omega (arith, falls_sum k vs)))
    ]

pub falls_to : (s : CodeSet) (n j most sum : ℕ) (vs : List ℕ) → length (quotient_codes 0 vs) ≡ sum + length vs → length vs * 2 ^ suc most < sum → n ≤ most
    → j < n → cost s (Split n) vs < cost s (Split j) vs
falls_to s zero j most sum vs whole great le lt = absurd (omega arith)
falls_to s (suc n) j most sum vs whole great le lt =
    let last = falls s n most sum vs whole great le in
    elim (cases_lt j n) [
      | inl below ↦ omega (arith, last, falls_to s n j most sum vs whole great (omega arith) below)
      | inr ge ↦ (let e : n ≡ j = omega arith in subst (λ (i : ℕ). cost s (Split (suc n)) vs < cost s (Split i) vs) e last)
    ]

-- from a k above which the values' sum is small, no next k is shorter
rises : (s : CodeSet) (k sum : ℕ) (vs : List ℕ) → length (quotient_codes 0 vs) ≡ sum + length vs → sum ≤ length vs * 2 ^ k
    → cost s (Split k) vs ≤ cost s (Split (suc k)) vs
rises s k sum vs whole small =
    let h : ℕ = 2 ^ k in
    let q : ℕ = length (quotient_codes k vs) in
    let r : ℕ = length (quotient_codes (suc k) vs) in
    let pos : 1 ≤ h = pow_pos k in
    elim (cases_lt (r + length vs) q) [
      | inl lt ↦
          (let times : h * (r + length vs + 1) ≤ h * q = mul-le h (r + length vs + 1) h q (omega arith) (omega arith) in
          absurd (omega (arith, rises_sum k vs)))
      | inr ge ↦ omega (arith, split_cost s k vs, split_cost s (suc k) vs)
    ]

pub rises_from : (s : CodeSet) (more k sum : ℕ) (vs : List ℕ) → length (quotient_codes 0 vs) ≡ sum + length vs → sum ≤ length vs * 2 ^ k
    → cost s (Split k) vs ≤ cost s (Split (more + k)) vs
rises_from s zero k sum vs whole small = (let e : 0 + k ≡ k = omega arith in rw e (omega arith))
rises_from s (suc more) k sum vs whole small =
    let e : suc more + k ≡ suc (more + k) = omega arith in
    let wide : 2 ^ k ≤ 2 ^ (more + k) = pow-le-pow_right {n = 2} (lit< tt) {i = k} {j = more + k} (omega arith) in
    let all : length vs * 2 ^ k ≤ length vs * 2 ^ (more + k) = mul-le _ _ _ _ (omega arith) wide in
    let last = rises s (more + k) sum vs whole (omega arith) in
    rw e (omega (arith, last, rises_from s more k sum vs whole small))

-- ---- the second extension

pair_long : (a b : ℕ) → 2 * (a + b) ≤ pair_number a b + 1
pair_long a b =
    let s : ℕ = a + b in
    elim (cases_lt 2 s) [
      | inl lt ↦ (let p : s * 4 ≤ s * (s + 1) = mul-le s 4 s (s + 1) (omega arith) (omega arith) in omega arith)
      | inr le ↦ few s le
    ]
  where
    few : (s : ℕ) → s ≤ 2 → 2 * s ≤ s * (s + 1) / 2 + b + 1
    few zero le = omega arith
    few (suc zero) le = omega arith
    few (suc (suc zero)) le = omega arith
    few (suc (suc (suc s))) le = absurd (omega arith)

pairs_long : (vs : List ℕ) → 2 * length (quotient_codes 0 vs) ≤ length (pair_codes vs) + 2 * length vs
unfolding quotient_codes pair_codes
pairs_long [] = omega arith
pairs_long (a ∷ []) = omega (arith, quotients_cons 0 a [], length-fundamental (pair_number a 0), pair_long a 0)
pairs_long (a ∷ b ∷ vs) = omega (arith, quotients_cons 0 a (b ∷ vs), quotients_cons 0 b vs, pairs_more a b vs, pair_long a b, pairs_long vs)

-- values that aren't small are shorter by their fundamental sequences
pub second_longer : (s : CodeSet) (vs : List ℕ) → 2 * length vs ≤ length (quotient_codes 0 vs) → cost s (Split 0) vs < cost s Second vs
second_longer s vs great = omega (arith, split_cost s 0 vs, second_cost s vs, pairs_long vs)
