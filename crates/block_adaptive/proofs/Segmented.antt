-- Segments are as many as are counted, and each has a data set of three bits at least.
use Rattle.std.proofs.Common.{◌≡◌, ℕ, min, cond, add-zero, zero, suc, ◌+◌, ◌-◌, ◌*◌, ◌/◌, ◌%◌, ◌<◌, ◌≤◌, true, false, leb, List, [], ◌∷◌, ◌++◌, length}
use Rattle.std.proofs.Common.{sum, refl, ap, subst, ◌∙◌, inl, inr, arith}
use Rattle.std.proofs.lemmas.Bool.{cases_lt, le-leb, lt-leb}
use Rattle.std.proofs.lemmas.List.{length-append}
use Rattle.std.proofs.lemmas.Nat.{mod-mul-add, div-add-mod', mod_below, mul-le}
use Rattle.header_bits.specs.Bits.{fundamental}
use Rattle.block_adaptive.specs.declared.options.CodeSet.{CodeSet}
use Rattle.block_adaptive.specs.declared.options.Choice.TheVariants.{Uncoded, Second, Split}
use Rattle.block_adaptive.specs.Options.{width, splits, pair_codes, pair_number, zero_identifier}
use Rattle.block_adaptive.specs.Segments.{block_count, segment_rest, segments_from, segments}
use Rattle.block_adaptive.specs.DataSets.{CodedDataSet, Block, Run, RestOfSegment, Cut, cut_of, left_at, IsCodedDataSet, AreCodedDataSets, blocks_in, spelled}
use Rattle.block_adaptive.specs.DataSets.{spelling, run_code, rest_code}
use Rattle.block_adaptive.specs.Laws.{SegmentsAreCounted, NoShorterBody}
use Rattle.block_adaptive.proofs.Bodies.{data_set_most, data_sets_few, data_set_some}
use Rattle.block_adaptive.proofs.Costs.{uncoded_cost, second_cost, split_cost, quotients_least, pairs_more}
use Rattle.block_adaptive.proofs.Again.{width_least}
use Rattle.block_adaptive.proofs.Lawful.{rest_least}
use Rattle.block_adaptive.proofs.ListSums.{sum_cons}
use Rattle.block_adaptive.proofs.Intervals.{begun, begun_none, few_at, begun_within}
use Rattle.block_adaptive.proofs.Zeros.{length-fundamental}

-- ---- a segment's length from a place on

-- blocks of one segment begin one segment at most
begun_few : (r n i k : ℕ) → 1 ≤ r → k ≤ segment_rest r n i → begun r (i + k) ≤ begun r i + 1
unfolding segment_rest
begun_few r n i k pos le = omega (arith, begun_within r i k pos (omega arith), few_at (i % r) k (omega arith))

-- a whole segment begins one
begun_one : (r n i : ℕ) → 1 ≤ r → i < n → i % r % 64 ≡ 0 → begun r (i + segment_rest r n i) ≡ begun r i + 1
unfolding segment_rest
begun_one r n i pos lt border = grind (arith, begun_within)

-- and ends at the last block, or where another begins
border_next : (r n i : ℕ) → 1 ≤ r → i < n → i % r % 64 ≡ 0 → i + segment_rest r n i < n → (i + segment_rest r n i) % r % 64 ≡ 0
unfolding segment_rest
border_next r n i pos lt border more =
    let whole = div-add-mod' i r in
    let below = mod_below i _ pos in
    let k : ℕ = min (64 - i % r % 64) (min (r - i % r) (n - i)) in
    let at : i / r * r + i % r + k ≡ i + k = omega arith in
    elim (cases_lt _ _) [
      | inl inside ↦
          (let position : (i / r * r + (i % r + k)) % r ≡ i % r + k = mod-mul-add _ _ _ inside in
          let same : i + k ≡ i / r * r + (i % r + k) = omega arith in
          let long : k ≡ 64 = omega arith in
          rw (same, position) (omega arith))
      | inr over ↦
          (let position : ((i / r + 1) * r + 0) % r ≡ 0 = mod-mul-add _ _ _ pos in
          let same : i + k ≡ (i / r + 1) * r + 0 = omega arith in
          rw (same, position) refl)
    ]

-- ---- segments one after another

rest_few : (r n i : ℕ) → segment_rest r n i ≤ n - i
unfolding segment_rest
rest_few r n i = omega arith

counted : (r n most i : ℕ) → 1 ≤ r → i ≤ n → n ≤ most + i → (i < n → i % r % 64 ≡ 0)
    → (begun r i + length (segments_from r n most i) ≡ begun r n) × (i + sum (segments_from r n most i) ≡ n)
unfolding segments_from
counted r n zero i pos le enough border = (let same : i ≡ n = omega arith in rw same (omega arith, omega arith))
counted r n (suc most) i pos le enough border =
    elim (cases_lt _ _) [
      | inl lt ↦
          (let more : leb n i ≡ false = lt-leb _ _ lt in
          let one = begun_one _ _ _ pos lt (border lt) in
          let k : ℕ = segment_rest r n i in
          let some : 1 ≤ k = rest_least _ _ _ pos lt in
          let few : k ≤ n - i = rest_few _ _ _ in
          let others = counted r n most (i + k) pos (omega arith) (omega arith) (λ less. border_next _ _ _ pos lt (border lt) less) in
          rw (more, sum_cons _ _) (omega (arith, one, others.0), omega (arith, others.1)))
      | inr ge ↦
          (let done : leb n i ≡ true = le-leb _ _ ge in
          let same : i ≡ n = omega arith in
          rw done ((λ j. (ap (begun r) same) j + 0) ∙ add-zero _, omega arith))
    ]

pub segments_are_counted : SegmentsAreCounted
unfolding segments
segments_are_counted n size reference pos =
    let all : ℕ = block_count size n in
    let zero_place : 0 % reference % 64 ≡ 0 = omega (arith, mod_below 0 reference pos, div-add-mod' 0 reference) in
    let walk = counted reference all all 0 pos (omega arith) (omega arith) (λ some. zero_place) in
    (omega (arith, walk.0, begun_none reference pos), omega (arith, walk.1))

-- ---- each segment has a data set

data_sets_many : (c : Cut) (i j : ℕ) (data_sets : List CodedDataSet) → 1 ≤ c.reference → j ≤ c.count → AreCodedDataSets c i data_sets j
    → begun c.reference j ≤ begun c.reference i + length data_sets
unfolding AreCodedDataSets
data_sets_many c i j [] pos le h = subst (λ (k : ℕ). begun c.reference k ≤ begun c.reference i + 0) h (omega arith)
data_sets_many c i j (t ∷ data_sets) pos le h =
    let k : ℕ = blocks_in (left_at c i) t in
    let some = data_set_some _ _ _ t h.0 in
    let few = data_sets_few _ _ _ _ h.1 in
    let left = rest_least _ _ _ pos (omega arith) in
    let one = begun_few _ _ _ _ pos (data_set_most _ _ _ t left h.0) in
    omega (arith, one, data_sets_many c (i + k) j data_sets pos le h.1)

-- ---- and a data set three bits

pairs_some : (v : ℕ) (vs : List ℕ) → 1 ≤ length (pair_codes (v ∷ vs))
unfolding pair_codes
pairs_some v [] = omega (arith, length-fundamental (pair_number v 0))
pairs_some v (w ∷ vs) = omega (arith, pairs_more v w vs)

pairs_least : (vs : List ℕ) → 1 ≤ length vs → 1 ≤ length (pair_codes vs)
pairs_least [] some = absurd (omega arith)
pairs_least (v ∷ vs) some = pairs_some v vs

-- a set with a split-sample option has identifiers of two bits at least
two_wide : (s : CodeSet) (k : ℕ) → k < splits s → 2 ≤ width s
two_wide s k lt = grind arith

run_bits : (s : CodeSet) (m : ℕ) → 3 ≤ length (zero_identifier s ++ fundamental m)
unfolding zero_identifier
run_bits s m = grind (arith, length-append, length-fundamental)

data_set_bits : (s : CodeSet) (size left : ℕ) (t : CodedDataSet) → 1 ≤ s.bits → 2 ≤ size → IsCodedDataSet s size left t → 3 ≤ length (spelled s t)
unfolding spelled run_code rest_code
data_set_bits s size left (Block Uncoded vs) deep two h =
    let many : 1 * 2 ≤ s.bits * length vs = mul-le 1 2 s.bits (length vs) deep (omega (arith, h.whole)) in
    omega (arith, uncoded_cost s vs, width_least s, many)
data_set_bits s size left (Block Second vs) deep two h = omega (arith, second_cost s vs, width_least s, pairs_least vs (omega (arith, h.whole)))
data_set_bits s size left (Block (Split k) vs) deep two h = omega (arith, split_cost s k vs, two_wide s k h.option, quotients_least k vs, h.whole)
data_set_bits s size left (Run n) deep two h =
    elim (leb n 4) as (λ b. 3 ≤ length (zero_identifier s ++ cond b (fundamental (n - 1)) (fundamental n))) [ true ↦ run_bits _ (n - 1) | false ↦ run_bits _ n ]
data_set_bits s size left RestOfSegment deep two h = run_bits s 4

data_sets_bits : (c : Cut) (i j : ℕ) (data_sets : List CodedDataSet) → 1 ≤ c.set.bits → 2 ≤ c.size → AreCodedDataSets c i data_sets j
    → 3 * length data_sets ≤ length (spelling c.set data_sets)
unfolding AreCodedDataSets
data_sets_bits c i j [] deep two h = omega arith
data_sets_bits c i j (t ∷ data_sets) deep two h =
    let others = data_sets_bits c (i + blocks_in (left_at c i) t) j data_sets deep two h.1 in
    omega (arith, data_set_bits _ _ _ t deep two h.0, others, length-append (spelled c.set t) (spelling c.set data_sets))

pub no_shorter_body : NoShorterBody
no_shorter_body s size reference numbers bits deep two pos h =
    let c : Cut = cut_of s size reference (length numbers) in
    let many = data_sets_many _ _ _ h.data_sets pos (omega arith) h.lawful in
    let least = data_sets_bits _ _ _ h.data_sets deep two h.lawful in
    omega (arith, many, least, begun_none reference pos, ap length h.text)
