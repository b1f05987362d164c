-- The first of the shortest options among those that were tried.
use Rattle.std.proofs.Common.{◌≡◌, ℕ, zero, suc, ◌+◌, ◌<◌, ◌≤◌, ◌⊎◌, Bool, true, false, List, arith}
use Rattle.block_adaptive.specs.declared.options.CodeSet.{CodeSet}
use Rattle.block_adaptive.specs.declared.options.Choice.{Choice}
use Rattle.block_adaptive.specs.declared.options.Choice.TheVariants.{Uncoded, Second, Split}
use Rattle.block_adaptive.specs.Options.{splits, cost}
use Rattle.block_adaptive.specs.Chosen.{shorter, shortest, chosen_option, turn}
use Rattle.block_adaptive.specs.Laws.{OptionIsLeast}

-- it is shorter, or as short and comes first
abbrev pub Leads : CodeSet → List ℕ → Choice → Choice → Type 0
Leads s vs o p = (cost s o vs < cost s p vs) ⊎ ((cost s o vs ≡ cost s p vs) × (turn o ≤ turn p))

-- uncoded, the second extension unless it was left out, and split-sample with each k from the first on
abbrev pub IsTried : Bool → ℕ → ℕ → Choice → Type 0
IsTried longer first k Uncoded = Unit {0}
IsTried longer first k Second = longer ≡ false
IsTried longer first k (Split j) = (first ≤ j) × (j < k)

pub record LeadsTried (s : CodeSet) (vs : List ℕ) (longer : Bool) (first k : ℕ) (o : Choice) : Type 0 where
  pub tried : IsTried longer first k o
  pub leads : (p : Choice) → IsTried longer first k p → Leads s vs o p

pub shorter_leads : (s : CodeSet) (vs : List ℕ) → LeadsTried s vs false 0 0 (shorter s vs Uncoded Second)
shorter_leads s vs = grind arith

module _ {s : CodeSet} {vs : List ℕ} {longer : Bool} {first k : ℕ} {o : Choice} where
  pub next_leads : first ≤ k → LeadsTried s vs longer first k o → cost s (Split k) vs < cost s o vs → LeadsTried s vs longer first (k + 1) (Split k)
  next_leads from h lt = grind arith

  pub old_leads : LeadsTried s vs longer first k o → cost s o vs ≤ cost s (Split k) vs → LeadsTried s vs longer first (k + 1) o
  old_leads h le = grind arith

-- ---- the chosen option leads all

shortest_leads : (s : CodeSet) (vs : List ℕ) (n : ℕ) → LeadsTried s vs false 0 n (shortest s vs n)
unfolding shortest
shortest_leads s vs zero = shorter_leads s vs
shortest_leads s vs (suc n) = grind (arith, shortest_leads s vs n)

pub option_is_least : OptionIsLeast
unfolding chosen_option
option_is_least s vs = grind (arith, shortest_leads)

-- the other options are longer than one that was tried, or not shorter and come later
module _ {s : CodeSet} {vs : List ℕ} {longer : Bool} {first k : ℕ} {o : Choice} where
  pub leads_all : LeadsTried s vs longer first k o → k ≤ splits s → (0 < splits s → first < splits s)
      → ((j : ℕ) → j < first → cost s (Split first) vs < cost s (Split j) vs) → (longer ≡ true → (0 < splits s) × (cost s (Split first) vs < cost s Second vs))
      → ((j : ℕ) → k ≤ j → j < splits s → cost s o vs ≤ cost s (Split j) vs) → o ≡ chosen_option s vs
  leads_all h few inside below second rest = grind (arith, option_is_least)
