-- No body of the block-adaptive coder is longer than its blocks uncoded, with an identifier each.
use Rattle.std.proofs.Common.{◌≡◌, ◌+◌, ◌-◌, ◌*◌, ◌/◌, ◌≤◌, ℕ, zero, suc, Bool, true, false, cond, eqb, leb, ◌&&◌, List, [], ◌∷◌, ◌++◌, length}
use Rattle.std.proofs.Common.{take, drop, replicate, refl, sym, ap, ◌∙◌, inl, inr, length-append, arith}
use Rattle.std.specs.List.{AllByRecursion}
use Rattle.std.proofs.lemmas.Bool.{eqb-true, eqb-false, leb-true}
use Rattle.std.proofs.lemmas.List.{length-replicate, length-take, length-drop}
use Rattle.std.proofs.Math.Nat.{add-mul, mul-add, mul-le-mul, mul-le-mul_left, mul-le-mul_right, mul_assoc, one-mul}
use Rattle.header_bits.specs.Bits.{fundamental}
use Rattle.header_bits.specs.Lawful.{IsBlockSize}
use Rattle.header_bits.proofs.Items.{all_drop}
use Rattle.block_adaptive.proofs.Powers.{and_true}
use Rattle.block_adaptive.proofs.Zeros.{length-fundamental}
use Rattle.block_adaptive.specs.declared.options.CodeSet.{CodeSet}
use Rattle.block_adaptive.specs.declared.options.Choice.TheVariants.{Uncoded}
use Rattle.block_adaptive.specs.Options.{width, splits, zero_identifier, cost}
use Rattle.block_adaptive.specs.Segments.{first_blocks, block_count, blocks}
use Rattle.block_adaptive.specs.DataSets.{CodedDataSet, Block, Run, RestOfSegment, run_code, rest_code, spelled, Cut, cut_of, left_at, blocks_in, spelling}
use Rattle.block_adaptive.specs.Chosen.{shortest, chosen_option, zero_blocks, data_set_of, chosen_from, chosen_data_sets, chosen_block_body}
use Rattle.block_adaptive.proofs.Costs.{uncoded_cost}

width_few : (s : CodeSet) → width s ≤ 4
width_few s = grind arith

-- the chosen option is no longer than uncoded
shortest_short : (s : CodeSet) (values : List ℕ) (n : ℕ) → cost s (shortest s values n) values ≤ cost s Uncoded values
unfolding shortest
shortest_short s values zero = grind arith
shortest_short s values (suc n) = grind (arith, shortest_short s values n)

option_short : (s : CodeSet) (values : List ℕ) → cost s (chosen_option s values) values ≤ cost s Uncoded values
unfolding chosen_option
option_short s values = shortest_short s values (splits s)

run_short : (s : CodeSet) (n : ℕ) → length (spelled s (Run n)) ≤ n + 6
unfolding spelled run_code zero_identifier
run_short s n =
    omega (
      arith,
      width_few s,
      length-fundamental (n - 1),
      length-fundamental n,
      length-append (replicate (width s) false ++ false ∷ []) (cond (leb n 4) (fundamental (n - 1)) (fundamental n)),
      length-append (replicate (width s) false) (false ∷ []),
      length-replicate (width s) false,
      code (leb n 4),
    )
  where
    code : (b : Bool) → length (cond b (fundamental (n - 1)) (fundamental n)) ≤ n + 1
    code true = omega (arith, length-fundamental (n - 1))
    code false = omega (arith, length-fundamental n)

rest_short : (s : CodeSet) → length (spelled s RestOfSegment) ≤ 10
unfolding spelled rest_code zero_identifier
rest_short s =
    omega (
      arith,
      width_few s,
      length-fundamental 4,
      length-append (replicate (width s) false ++ false ∷ []) (fundamental 4),
      length-append (replicate (width s) false) (false ∷ []),
      length-replicate (width s) false,
    )

block_short : (s : CodeSet) (values : List ℕ) → length (spelled s (Block (chosen_option s values) values)) ≤ length values * s.bits + 6
unfolding spelled
block_short s values = omega (arith, option_short s values, uncoded_cost s values, width_few s)

-- ---- one data set

zeros_few : (n : ℕ) (bs : List (List ℕ)) → zero_blocks n bs ≤ length bs
zeros_few zero bs = omega arith
zeros_few (suc n) [] = omega arith
zeros_few (suc n) (b ∷ bs) = grind (arith, zeros_few n bs)

-- a data set stands for some of the blocks ahead, and is no longer than they allow
record Short (s : CodeSet) (size left : ℕ) (bs : List (List ℕ)) (t : CodedDataSet) : Type 0 where
  most : blocks_in left t ≤ length bs
  short : length (spelled s t) ≤ blocks_in left t * (size * s.bits + 6)

pick : (s : CodeSet) (size left : ℕ) (b : List ℕ) (bs : List (List ℕ)) → length b ≡ size → 1 ≤ size * s.bits → (k : ℕ) → k ≤ length (b ∷ bs) → (e f : Bool)
    → eqb k 0 ≡ e → (eqb k left && leb 5 k) ≡ f → Short s size left (b ∷ bs) (cond e (Block (chosen_option s b) b) (cond f RestOfSegment (Run k)))
pick s size left b bs long some k few true f none test = record {
  most = omega arith;
  short = rw (one-mul (size * s.bits + 6)) (rw long at (block_short s b));
}
pick s size left b bs long some k few false true none test =
    let both = and_true (eqb k left) (leb 5 k) test in
    let same : k ≡ left = eqb-true k left both.0 in
    let five : 5 ≤ k = leb-true 5 k both.1 in
    let many : 5 * (size * s.bits + 6) ≤ left * (size * s.bits + 6) = mul-le-mul_right (size * s.bits + 6) (omega arith) in
    record { most = omega arith; short = omega (arith, rest_short s, many) }
pick s size left b bs long some k few false false none test =
    let one : 1 ≤ k = (let not = eqb-false k 0 none in omega arith) in
    let many : k * 7 ≤ k * (size * s.bits + 6) = mul-le-mul_left k (omega arith) in
    record { most = few; short = omega (arith, run_short s k, many) }

data_set_short : (s : CodeSet) (size left : ℕ) (b : List ℕ) (bs : List (List ℕ)) → length b ≡ size → 1 ≤ size * s.bits
    → Short s size left (b ∷ bs) (data_set_of s left b bs)
data_set_short s size left b bs long some =
    pick s size left b bs long some (zero_blocks left (b ∷ bs)) (zeros_few left (b ∷ bs)) _ _ refl refl

-- ---- all data sets

from_short : (c : Cut) (n i : ℕ) (bs : List (List ℕ)) → AllByRecursion (λ b. length b ≡ c.size) bs → 1 ≤ c.size * c.set.bits
    → length (spelling c.set (chosen_from c n i bs)) ≤ length bs * (c.size * c.set.bits + 6)
unfolding chosen_from
from_short c zero i bs all some = omega arith
from_short c (suc n) i [] all some = omega arith
from_short c (suc n) i (b ∷ bs) all some =
    let most : ℕ = c.size * c.set.bits + 6 in
    let t : CodedDataSet = data_set_of c.set (left_at c i) b bs in
    let k : ℕ = blocks_in (left_at c i) t in
    let one = data_set_short c.set c.size (left_at c i) b bs all.0 some in
    let rest : List CodedDataSet = chosen_from c n (i + k) (drop k (b ∷ bs)) in
    let others : length (spelling c.set rest) ≤ length (drop k (b ∷ bs)) * most =
    from_short c n (i + k) (drop k (b ∷ bs)) (all_drop _ k (b ∷ bs) all) some in
    let gone : length (drop k (b ∷ bs)) ≡ length (b ∷ bs) - k = length-drop k (b ∷ bs) in
    let whole : length (b ∷ bs) ≡ k + length (drop k (b ∷ bs)) = omega (arith, gone, one.most) in
    let parts : length (b ∷ bs) * most ≡ k * most + length (drop k (b ∷ bs)) * most =
    ap (λ (x : ℕ). x * most) whole ∙ add-mul k (length (drop k (b ∷ bs))) most in
    omega (arith, one.short, others, parts, length-append (spelled c.set t) (spelling c.set rest))

first_whole : (size n : ℕ) (numbers : List ℕ) → AllByRecursion (λ b. length b ≡ size) (first_blocks size n numbers)
unfolding first_blocks
first_whole size zero numbers = tt
first_whole size (suc n) numbers =
    let part : List ℕ = take size numbers in
    let filling : length (part ++ replicate (size - length part) 0) ≡ size =
    omega (arith, length-append part (replicate (size - length part) 0), length-replicate {A = ℕ} (size - length part) 0, length-take size numbers) in
    (filling, first_whole size n (drop size numbers))

first_count : (size n : ℕ) (numbers : List ℕ) → length (first_blocks size n numbers) ≡ n
unfolding first_blocks
first_count size zero numbers = refl
first_count size (suc n) numbers = omega (arith, first_count size n (drop size numbers))

body_short : (s : CodeSet) (size reference : ℕ) (numbers : List ℕ) → 1 ≤ size * s.bits
    → length (chosen_block_body s size reference numbers) ≤ block_count size (length numbers) * (size * s.bits + 6)
unfolding chosen_block_body chosen_data_sets blocks
body_short s size reference numbers some =
    let count : ℕ = block_count size (length numbers) in
    let bs : List (List ℕ) = first_blocks size count numbers in
    let all = first_whole size count numbers in
    let short = from_short (cut_of s size reference (length numbers)) (length bs) 0 bs all some in
    let same : length bs * (size * s.bits + 6) ≡ count * (size * s.bits + 6) = ap (λ (x : ℕ). x * (size * s.bits + 6)) (first_count size count numbers) in
    omega (arith, short, same)

-- the blocks of n numbers: their values are at most 63 more, and each has 8 at least
pub count_few : (size n : ℕ) → IsBlockSize size → (block_count size n * size ≤ n + 63) × (block_count size n ≤ n / 8 + 1)
count_few size n (inl e) = rw e (omega arith, omega arith)
count_few size n (inr (inl e)) = rw e (omega arith, omega arith)
count_few size n (inr (inr (inl e))) = rw e (omega arith, omega arith)
count_few size n (inr (inr (inr e))) = rw e (omega arith, omega arith)

pub block_body_short : (s : CodeSet) (size reference : ℕ) (numbers : List ℕ) → IsBlockSize size → 1 ≤ s.bits → s.bits ≤ 16
    → length (chosen_block_body s size reference numbers) ≤ length numbers * s.bits + 63 * 16 + (length numbers / 8 + 1) * 6
block_body_short s size reference numbers lawful some few =
    let n : ℕ = length numbers in
    let count : ℕ = block_count size n in
    let held = count_few size n lawful in
    let least : 8 ≤ size = elim lawful [ inl e ↦ omega arith | inr (inl e) ↦ omega arith | inr (inr (inl e)) ↦ omega arith | inr (inr (inr e)) ↦ omega arith ] in
    let wide : 8 * 1 ≤ size * s.bits = mul-le-mul least some in
    let body = body_short s size reference numbers (omega arith) in
    let spread : count * (size * s.bits + 6) ≡ count * (size * s.bits) + count * 6 = mul-add count (size * s.bits) 6 in
    let joined : count * (size * s.bits) ≡ count * size * s.bits = sym (mul_assoc count size s.bits) in
    let filling : count * size * s.bits ≤ (n + 63) * s.bits = mul-le-mul_right s.bits held.0 in
    let split : (n + 63) * s.bits ≡ n * s.bits + 63 * s.bits = add-mul n 63 s.bits in
    omega (arith, body, spread, joined, filling, split, held.1)
