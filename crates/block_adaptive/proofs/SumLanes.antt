-- Sums of quotients in eight lanes.
use Rattle.std.proofs.Common.{◌≡◌, ℕ, zero, suc, ◌+◌, ◌*◌, ◌/◌, ◌^◌, ◌<◌, ◌≤◌, List, length, take, get_or, replicate, refl, sym, ap, ap₂, ◌∙◌, arith}
use Rattle.std.proofs.lemmas.List.{take_more}
use Rattle.std.proofs.lemmas.List.Sums.{sum_by_push}
use Rattle.std.proofs.lemmas.Nat.{shr-shr}
use Rattle.std.proofs.Math.Nat.{div-le_self}
use Rattle.lanes.specs.Lanes.{number}
use Rattle.lanes.proofs.Plain.{splat}
use Rattle.block_adaptive.specs.LaneSums.{total}
use Rattle.block_adaptive.specs.Options.{quotient_sum}

total_same : (f g : ℕ → ℕ) → (n j : ℕ) → ((m : ℕ) → m < j + n → f m ≡ g m) → total f j n ≡ total g j n
total_same f g zero j same = refl
total_same f g (suc n) j same = ap₂ (λ x y. x + y) (same j (omega arith)) (total_same f g n (suc j) (λ m lt. same m (omega (arith, lt))))

total_plus : (f g : ℕ → ℕ) → (n j : ℕ) → total (λ m. f m + g m) j n ≡ total f j n + total g j n
total_plus f g zero j = refl
total_plus f g (suc n) j = omega (arith, total_plus f g n (suc j))

-- one number more, and several
one_more : (k : ℕ) (block : List ℕ) (i : ℕ) → i < length block → quotient_sum k (take (i + 1) block) ≡ quotient_sum k (take i block) + get_or block i 0 / 2 ^ k
one_more k block i lt = ap (quotient_sum k) (take_more block i 0 lt) ∙ sum_by_push (λ v. v / 2 ^ k) (take i block) (get_or block i 0)

taken_sum : (k : ℕ) (block : List ℕ) (i n j : ℕ) → i + j + n ≤ length block
    → quotient_sum k (take (i + j + n) block) ≡ quotient_sum k (take (i + j) block) + total (λ m. get_or block (i + m) 0 / 2 ^ k) j n
taken_sum k block i zero j le = let none : i + j + 0 ≡ i + j = omega arith in rw none (omega arith)
taken_sum k block i (suc n) j le =
    let next : i + suc j ≡ i + j + 1 = omega arith in
    let last : i + suc j + n ≡ i + j + suc n = omega arith in
    let rest = taken_sum k block i n (suc j) (omega (arith, le)) in
    let one = one_more k block (i + j) (omega (arith, le)) in
    omega (arith, rw (last, next) at rest, one)

pub smaller : (v k j most : ℕ) → v / 2 ^ k ≤ most → v / 2 ^ (k + j) ≤ most
smaller v k j most le = rw (← shr-shr v k j) (omega (arith, div-le_self (v / 2 ^ k) (2 ^ j), le))

-- the lanes hold the sums of the quotients of the first values, of every eighth value each
pub record AreSums (k at : ℕ) (block lanes : List ℕ) : Type 0 where
  pub whole : total (number lanes) 0 8 ≡ quotient_sum k (take at block)
  pub most : (m : ℕ) → m < 8 → 8 * number lanes m ≤ 8191 * at

pub sums_start : (k : ℕ) (block : List ℕ) → AreSums k 0 block (replicate 8 0)
sums_start k block = record { whole = refl; most = λ m lt. rw (splat 8 m 0 lt) (omega arith) }

pub sums_next : (k at : ℕ) (block lanes quotients next : List ℕ) → at + 8 ≤ length block → at ≤ 56 → AreSums k at block lanes
    → ((m : ℕ) → m < 8 → number quotients m ≡ get_or block (at + m) 0 / 2 ^ k) → ((m : ℕ) → m < 8 → number quotients m ≤ 8191)
    → ((m : ℕ) → m < 8 → number lanes m + number quotients m < 65536 → number next m ≡ number lanes m + number quotients m) → AreSums k (at + 8) block next
sums_next k at block lanes quotients next inside few sums same small plus =
    let none : at + 0 ≡ at = omega arith in
    let numbers : ℕ → ℕ = λ m. get_or block (at + m) 0 / 2 ^ k in
    record {
      whole = total_same (number next) (λ m. number lanes m + number quotients m) 8 0 step
          ∙ total_plus (number lanes) (number quotients) 8 0
          ∙ ap₂ (λ x y. x + y) sums.whole (total_same (number quotients) numbers 8 0 same)
          ∙ sym (ap (λ n. quotient_sum k (take (n + 8) block)) (sym none) ∙ taken_sum k block at 8 0 (omega (arith, inside))
          ∙ ap (λ n. quotient_sum k (take n block) + total numbers 0 8) none);
      most = λ m lt. omega (arith, step m lt, sums.most m lt, small m lt);
    }
  where
    step : (m : ℕ) → m < 8 → number next m ≡ number lanes m + number quotients m
    step m lt = plus m lt (omega (arith, few, sums.most m lt, small m lt))
