-- The sum of a block's values, and the sums of their quotients.
use Rattle.std.proofs.lemmas.Grind.{common_steps}
use Rattle.std.proofs.Common.{◌≡◌, ℕ, zero, suc, ◌+◌, ◌*◌, ◌/◌, ◌^◌, true, false, List, [], ◌∷◌, length, sum, refl, arith}
use Rattle.std.proofs.lemmas.List.Sums.{sum_by-cons}
use Rattle.block_adaptive.specs.declared.options.CodeSet.{CodeSet}
use Rattle.block_adaptive.specs.declared.options.Choice.TheVariants.{Split}
use Rattle.block_adaptive.specs.Options.{width, quotient_codes, quotient_sum, cost}
use Rattle.block_adaptive.specs.Chosen.{is_zero}
use Rattle.block_adaptive.proofs.Costs.{quotients_cons, split_cost}
use Rattle.block_adaptive.proofs.ListSums.{sum_cons}

-- each quotient has a bit more
pub quotients_length : (k : ℕ) (vs : List ℕ) → length (quotient_codes k vs) ≡ quotient_sum k vs + length vs
unfolding quotient_codes
quotients_length k [] = refl
quotients_length k (v ∷ vs) = omega (arith, quotients_cons k v vs, sum_by-cons (λ (x : ℕ). x / 2 ^ k) v vs, quotients_length k vs)

-- the quotients under 0 are the values
pub plain_sum : (vs : List ℕ) → quotient_sum 0 vs ≡ sum vs
plain_sum [] = refl
plain_sum (v ∷ vs) = omega (arith, sum_by-cons (λ (x : ℕ). x / 2 ^ 0) v vs, sum_cons v vs, plain_sum vs)

pub plain_length : (vs : List ℕ) → length (quotient_codes 0 vs) ≡ sum vs + length vs
plain_length vs = omega (arith, quotients_length 0 vs, plain_sum vs)

pub split_is : (s : CodeSet) (k : ℕ) (vs : List ℕ) → width s + quotient_sum k vs + length vs + k * length vs ≡ cost s (Split k) vs
split_is s k vs = omega (arith, split_cost s k vs, quotients_length k vs)

-- ---- a block is zeros where its values add up to 0

pub zero_block : (vs : List ℕ) (total : ℕ) → total ≡ sum vs → total ≡ 0 → is_zero vs ≡ true
zero_block [] total is none = refl
zero_block (zero ∷ vs) total is none = zero_block vs total is none
zero_block (suc v ∷ vs) total is none = absurd (omega (arith, sum_cons (suc v) vs))

pub some_block : (vs : List ℕ) (total : ℕ) → total ≡ sum vs → (total ≡ 0 → ⊥) → is_zero vs ≡ false
some_block [] total is some = absurd (some is)
some_block (zero ∷ vs) total is some = some_block vs total is some
some_block (suc v ∷ vs) total is some = grind arith

-- what tells a block of zeros by its sum
pub ruleset zero_tests = (common_steps, zero_block, some_block)
