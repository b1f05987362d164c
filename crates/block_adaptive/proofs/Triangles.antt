-- A pair is read as the pair that its number stands for.
use Rattle.std.proofs.Common.{◌≡◌, ℕ, zero, suc, ◌+◌, ◌-◌, ◌*◌, ◌/◌, ◌<◌, ◌≤◌, Bool, List, [], ◌∷◌, ◌++◌, length, Ok, refl, subst, inl, inr}
use Rattle.std.proofs.Common.{append_assoc, arith}
use Rattle.std.specs.List.{AllByRecursion}
use Rattle.std.proofs.lemmas.Bool.{cases_lt, le-leb, lt-leb}
use Rattle.std.proofs.lemmas.Nat.{mul-le}
use Rattle.cube_core.proofs.Greatest.{greatest_is}
use Rattle.block_adaptive.specs.Options.{pair_number, pair_codes}
use Rattle.block_adaptive.specs.Reading.{Site, pair_sum, pair_of, pairs_at}
use Rattle.block_adaptive.proofs.Codes.{fundamental_again}
use Rattle.block_adaptive.proofs.ListSums.{double_triangle, triangle_grows, triangle_step}

pub pair_sum_is : (most a b : ℕ) → a ≤ most → b ≤ most → pair_sum most (pair_number a b) ≡ a + b
unfolding pair_sum
pair_sum_is most a b ha hb =
    greatest_is _ _ _ (omega arith) (le-leb _ _ (omega arith)) (λ m lt _.
    let d : ℕ = m - (a + b + 1) in
    let e : a + b + 1 + d ≡ m = omega arith in
    let grows : (a + b) * (a + b + 1) / 2 + (a + b) < m * (m + 1) / 2 = subst (λ (k : ℕ). (a + b) * (a + b + 1) / 2 + (a + b) < k * (k + 1) / 2) e
    (triangle_grows _ _) in
    lt-leb _ _ (omega arith))

-- no pair in range has a greater number than the last
pub pair_below : (most a b : ℕ) → a ≤ most → b ≤ most → pair_number a b ≤ 2 * most * (most + 1)
pair_below most a b ha hb = grind arith

pub pair_again : (site : Site) (most a b : ℕ) (rest : List Bool) → a ≤ most → b ≤ most → pair_of site most (pair_number a b) rest ≡ Ok ((a, b), rest)
unfolding pair_of
pair_again site most a b rest ha hb = grind (arith, pair_sum_is)

pub pairs_again : (site : Site) (most n : ℕ) (vs : List ℕ) (rest : List Bool) → length vs ≡ 2 * n → AllByRecursion (λ v. v ≤ most) vs
    → pairs_at site most n (pair_codes vs ++ rest) ≡ Ok (vs, rest)
unfolding pairs_at pair_codes
pairs_again site most zero [] rest len h = refl
pairs_again site most (suc n) (a ∷ b ∷ vs) rest len h =
    let others = pairs_again site most n vs rest (omega arith) h.1.1 in grind (arith, append_assoc, fundamental_again, pair_again, pair_below)
pairs_again site most n vs rest len h = absurd (omega arith)

-- ---- the sum, by a square root

pub record IsSum (most m s : ℕ) : Type 0 where
  pub is : pair_sum most m ≡ s
  pub under : s * (s + 1) / 2 ≤ m
  pub bound : s ≤ 2 * most

sum_between : (most m s : ℕ) → m ≤ 2 * most * (most + 1) → s * (s + 1) / 2 ≤ m → m < (s + 1) * (s + 1 + 1) / 2 → IsSum most m s
unfolding pair_sum
sum_between most m s le under over =
    let within : s ≤ 2 * most = elim (cases_lt (2 * most) s) [
      | inl lt ↦
          (let d : ℕ = s - (2 * most + 1) in
          let e : 2 * most + 1 + d ≡ s = omega arith in
          let grows : 2 * most * (2 * most + 1) / 2 + 2 * most < s * (s + 1) / 2 = subst (λ (k : ℕ). 2 * most * (2 * most + 1) / 2 + 2 * most < k * (k + 1) / 2)
          e (triangle_grows d (2 * most)) in
          absurd (omega (arith, double_triangle (2 * most))))
      | inr ge ↦ omega arith
    ] in
    record {
      is = greatest_is _ s (2 * most) within (le-leb _ _ under) (λ k lt _.
          let d : ℕ = k - (s + 1) in
          let e : s + 1 + d ≡ k = omega arith in
          let grows : s * (s + 1) / 2 + s < k * (k + 1) / 2 = subst (λ (j : ℕ). s * (s + 1) / 2 + s < j * (j + 1) / 2) e (triangle_grows d s) in
          lt-leb _ _ (omega (arith, triangle_step s)));
      under = under;
      bound = within;
    }

pub sum_of_root : (most m r : ℕ) → m ≤ 2 * most * (most + 1) → r * r ≤ 8 * m + 1 → 8 * m + 1 < (r + 1) * (r + 1) → IsSum most m ((r - 1) / 2)
sum_of_root most m zero le low high = absurd (omega arith)
sum_of_root most m (suc q) le low high =
    let s : ℕ = (suc q - 1) / 2 in
    let least : 2 * s + 1 ≤ suc q = omega arith in
    let next : suc q + 1 ≤ 2 * s + 3 = omega arith in
    let small = mul-le _ _ (suc q) (suc q) least least in
    let large = mul-le (suc q + 1) (suc q + 1) _ _ next next in
    sum_between _ _ _ le (omega (arith, small, low, double_triangle s)) (omega (arith, large, high, double_triangle s, triangle_step s))
