-- The chosen option, out of the few k that the sum of the values leaves.
use Rattle.std.proofs.Common.{◌≡◌, ℕ, suc, ◌+◌, ◌-◌, ◌*◌, ◌^◌, ◌<◌, ◌≤◌, Bool, true, false, List, length, sum, subst, inl, inr, arith, lit<}
use Rattle.std.proofs.lemmas.Bool.{cases_lt}
use Rattle.std.proofs.Math.Nat.{pow-le-pow_right}
use Rattle.block_adaptive.specs.declared.options.CodeSet.{CodeSet}
use Rattle.block_adaptive.specs.declared.options.Choice.{Choice}
use Rattle.block_adaptive.specs.declared.options.Choice.TheVariants.{Second, Split}
use Rattle.block_adaptive.specs.Options.{width, splits, quotient_codes, cost}
use Rattle.block_adaptive.specs.Chosen.{chosen_option}
use Rattle.block_adaptive.proofs.Costs.{split_cost, quotients_least}
use Rattle.block_adaptive.proofs.Sums.{plain_length}
use Rattle.block_adaptive.proofs.Slopes.{falls_to, rises_from, second_longer}
use Rattle.block_adaptive.proofs.Tried.{LeadsTried, leads_all}
use Rattle.block_adaptive.proofs.Powers.{lead_cost}

-- the k from which on the search goes, and whether the second extension is left out
pub record IsSearch (s : CodeSet) (vs : List ℕ) (sum first : ℕ) (longer : Bool) : Type 0 where
  pub whole : length (quotient_codes 0 vs) ≡ sum + length vs
  pub within : 0 < splits s → first < splits s
  pub falling : 0 < first → length vs * 2 ^ (first + 1) < sum
  pub rising : first + 1 < splits s → sum ≤ length vs * 2 ^ (first + 2)
  pub second : longer ≡ true → (1 ≤ splits s) × (2 * length vs ≤ length (quotient_codes 0 vs))

below_first : (s : CodeSet) (vs : List ℕ) (sum first : ℕ) (longer : Bool) → IsSearch s vs sum first longer → (j : ℕ) → j < first
    → cost s (Split first) vs < cost s (Split j) vs
below_first s vs sum first longer h j lt =
    let e : first + 1 ≡ suc first = omega arith in
    falls_to _ _ _ _ _ _ h.whole (rw e at h.falling (omega arith)) (omega arith) lt

second_after : (s : CodeSet) (vs : List ℕ) (sum first : ℕ) (longer : Bool) → IsSearch s vs sum first longer → longer ≡ true
    → (0 < splits s) × (cost s (Split first) vs < cost s Second vs)
second_after s vs sum first longer h e =
    let some = h.second e in
    let start = second_longer s vs some.1 in (
      some.0,
      elim (cases_lt 0 first) [
        | inl lt ↦ omega (arith, start, below_first s vs sum first longer h 0 lt)
        | inr le ↦ (let none : 0 ≡ first = omega arith in subst (λ (k : ℕ). cost s (Split k) vs < cost s Second vs) none start)
      ],
    )

-- no later k is shorter, since the sum of the values is small
pub ended : (s : CodeSet) (vs : List ℕ) (sum first k : ℕ) (longer : Bool) (o : Choice) → IsSearch s vs sum first longer → LeadsTried s vs longer first k o
    → k ≤ splits s → (k < splits s → k ≡ first + 3) → o ≡ chosen_option s vs
ended s vs sum first k longer o h leads few last =
    leads_all leads few h.within (below_first s vs sum first longer h) (second_after s vs sum first longer h) (λ j from in_set.
    let end : k ≡ first + 3 = last (omega arith) in
    let beyond : j - (first + 2) + (first + 2) ≡ j = omega arith in
    let tried = lead_cost _ _ _ _ (leads.leads (Split (first + 2)) (omega arith, omega arith)) in
    let rest = rises_from s (j - (first + 2)) (first + 2) sum vs h.whole (h.rising (omega arith)) in
    omega (arith, tried, rw beyond at rest))

-- ---- values that are less than 1 on average

plain_short : (s : CodeSet) (vs : List ℕ) (k : ℕ) → sum vs < length vs → 1 ≤ k → cost s (Split 0) vs < cost s (Split k) vs
plain_short s vs k small some = grind (arith, plain_length, quotients_least, split_cost)

-- no k above 0 is shorter
pub ended_at_plain : (s : CodeSet) (vs : List ℕ) (k : ℕ) (o : Choice) → (0 < splits s → sum vs < length vs) → LeadsTried s vs false 0 k o → k ≤ splits s
    → (k < splits s → k ≡ 1) → o ≡ chosen_option s vs
ended_at_plain s vs k o small leads few last = grind (arith, leads_all, plain_short)

-- only an identifier of one bit leaves no k
pub some_splits : (s : CodeSet) → 1 < width s → 1 ≤ splits s
some_splits s wide = (let most : 2 ^ 2 ≤ 2 ^ width s = pow-le-pow_right {n = 2} (lit< tt) {i = 2} {j = width s} wide in omega arith)

pub no_splits : (s : CodeSet) → width s ≡ 1 → splits s ≡ 0
no_splits s one = (λ i. 2 ^ one i - 2)
