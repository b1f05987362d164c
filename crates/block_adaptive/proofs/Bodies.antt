-- Bodies, data set after data set.
use Rattle.std.proofs.Common.{◌≡◌, ℕ, zero, suc, ◌+◌, ◌-◌, ◌*◌, ◌^◌, ◌<◌, ◌≤◌, Bool, true, false, leb, List, [], ◌∷◌, ◌++◌, length, take, drop, replicate}
use Rattle.std.proofs.Common.{inl, inr, Ok, refl, sym, ap, subst, ◌∙◌, arith, append_assoc}
use Rattle.std.specs.List.{AllByRecursion}
use Rattle.std.proofs.lemmas.Bool.{cases_lt, le-leb, lt-leb}
use Rattle.std.proofs.lemmas.Nat.{pow_pos}
use Rattle.std.proofs.lemmas.List.{take_at, take_all, take-append-drop, length-take, length-drop}
use Rattle.block_adaptive.proofs.Packing.{range_filled, filled_length, filled_whole}
use Rattle.cube_core.specs.Steps.{◌>>=◌}
use Rattle.header_bits.proofs.Reading.{ok_is}
use Rattle.header_bits.proofs.Fronts.{bind_ok}
use Rattle.block_adaptive.proofs.Taken.{data_set_is_taken}
use Rattle.block_adaptive.proofs.Handed.{rest_most}
use Rattle.block_adaptive.specs.declared.options.CodeSet.{CodeSet}
use Rattle.block_adaptive.specs.Segments.{first_blocks, blocks, block_count}
use Rattle.block_adaptive.specs.DataSets.{CodedDataSet, Block, Run, RestOfSegment, Cut, cut_of, left_at, IsCodedDataSet, AreCodedDataSets, blocks_in}
use Rattle.block_adaptive.specs.DataSets.{blocks_told, values_of, spelled, spelling}
use Rattle.block_adaptive.specs.Chosen.{chosen_from, chosen_data_sets, chosen_block_body}
use Rattle.block_adaptive.specs.Reading.{Site, data_set_at, data_sets_at, block_body_at}
use Rattle.block_adaptive.specs.Laws.{OneBody, ChosenIsBody, BodyIsRead, AreBlocks}
use Rattle.block_adaptive.proofs.Again.{data_set_again}
use Rattle.block_adaptive.proofs.Lawful.{chosen_is_lawful, rest_least}
use Rattle.header_bits.proofs.Items.{all_take, all_drop}
use Rattle.block_adaptive.proofs.Places.{take_after}

-- a lawful data set stands for a block or more
pub data_set_some : (s : CodeSet) (size left : ℕ) (t : CodedDataSet) → IsCodedDataSet s size left t → 1 ≤ blocks_in left t
data_set_some s size left (Block o vs) h = omega arith
data_set_some s size left (Run n) h = h.0
data_set_some s size left RestOfSegment h = h

-- no more data sets than blocks
pub data_sets_few : (c : Cut) (i j : ℕ) (data_sets : List CodedDataSet) → AreCodedDataSets c i data_sets j → i + length data_sets ≤ j
unfolding AreCodedDataSets
data_sets_few c i j [] h = omega (arith, h)
data_sets_few c i j (t ∷ data_sets) h = omega (arith, data_set_some _ _ _ t h.0, data_sets_few c (i + blocks_in (left_at c i) t) j data_sets h.1)

-- lawful data sets are read as they are, whatever follows
pub data_sets_again : (count half n i : ℕ) (c : Cut) (data_sets : List CodedDataSet) (rest : List Bool) → c.size ≡ 2 * half → length data_sets ≤ n
    → AreCodedDataSets c i data_sets c.count → data_sets_at count c n i (spelling c.set data_sets ++ rest) ≡ Ok (data_sets, rest)
unfolding data_sets_at AreCodedDataSets
data_sets_again count half zero i c [] rest even few h = refl
data_sets_again count half zero i c (t ∷ data_sets) rest even few h = absurd (omega arith)
data_sets_again count half (suc n) i c [] rest even few h = grind arith
data_sets_again count half (suc n) i c (t ∷ data_sets) rest even few h =
    let others = data_sets_again count half n (i + blocks_in (left_at c i) t) c data_sets rest even (omega arith) h.1 in
    grind (arith, append_assoc, data_set_again, data_sets_few)

pub one_body : OneBody
one_body s half reference ms ns a b x y pos len p q e =
    let c : Cut = cut_of s (2 * half) reference (length ms) in
    let d : Cut = cut_of s (2 * half) reference (length ns) in
    let same-cut : d ≡ c = ap (cut_of s (2 * half) reference) (sym len) in
    let q-lawful : AreCodedDataSets c 0 q.data_sets c.count = subst (λ (k : Cut). AreCodedDataSets k 0 q.data_sets k.count) same-cut q.lawful in
    let few = data_sets_few _ _ _ p.data_sets p.lawful in
    let few-too = data_sets_few _ _ _ q.data_sets q-lawful in
    let first = data_sets_again _ half _ _ _ p.data_sets x refl (omega arith) p.lawful in
    let second = data_sets_again _ half _ _ _ q.data_sets y refl (omega arith) q-lawful in
    let bits : spelling s p.data_sets ++ x ≡ spelling s q.data_sets ++ y = (λ i. (sym p.text) i ++ x) ∙ e ∙ (λ i. q.text i ++ y) in
    let same = ok_is (p.data_sets, x) (q.data_sets, y) (sym first ∙ (λ i. data_sets_at 0 c c.count 0 (bits i)) ∙ second) in
    let data_sets : p.data_sets ≡ q.data_sets = (λ i. (same i).0) in
    let numbers : take (length ms) (values_of (blocks_told c 0 p.data_sets)) ≡ take (length ns) (values_of (blocks_told d 0 q.data_sets)) =
    rw (data_sets, len) refl in
    (sym p.told ∙ numbers ∙ q.told, (λ i. (same i).1))

-- ---- the chosen body

pub length-first_blocks : (size n : ℕ) (numbers : List ℕ) → length (first_blocks size n numbers) ≡ n
unfolding first_blocks
length-first_blocks size zero numbers = refl
length-first_blocks size (suc n) numbers = ap suc (length-first_blocks size n (drop size numbers))

first_are_blocks : (s : CodeSet) (size n : ℕ) (numbers : List ℕ) → AllByRecursion (λ v. v < 2 ^ s.bits) numbers → AreBlocks s size (first_blocks size n numbers)
unfolding first_blocks
first_are_blocks s size zero numbers h = tt
first_are_blocks s size (suc n) numbers h =
    let others = first_are_blocks s size n (drop size numbers) (all_drop _ size _ h) in
    grind (arith, all_take, filled_length, length-take, pow_pos, range_filled)

-- the blocks begin with the numbers
first_values : (size n : ℕ) (numbers : List ℕ) → length numbers ≤ n * size → take (length numbers) (values_of (first_blocks size n numbers)) ≡ numbers
unfolding first_blocks
first_values size zero [] h = refl
first_values size zero (v ∷ vs) h = absurd (omega arith)
first_values size (suc n) numbers h =
    elim (cases_lt size (length numbers)) [
      | inl more ↦
          (let whole : length (take size numbers) ≡ size = omega (arith, length-take size numbers) in
          let rest : length (drop size numbers) ≡ length numbers - size = length-drop size numbers in
          let few : length (drop size numbers) ≤ n * size = omega arith in
          rw (filled_whole size (take size numbers) whole) (take_after (take size numbers) (values_of (first_blocks size n (drop size numbers)))
          (length numbers) (length (drop size numbers)) (omega arith) ∙ (λ i. take size numbers ++ (first_values size n (drop size numbers) few) i)
          ∙ take-append-drop size numbers))
      | inr few ↦
          (let all : take size numbers ≡ numbers = take_all size numbers few in
          rw (all, append_assoc numbers (replicate (size - length numbers) 0) (values_of (first_blocks size n (drop size numbers))))
          (take_at numbers (replicate (size - length numbers) 0 ++ values_of (first_blocks size n (drop size numbers))) (length numbers) refl))
    ]

pub blocks_enough : (size n : ℕ) → 1 ≤ size → n ≤ block_count size n * size
blocks_enough size n pos = grind arith

pub chosen_is_body : ChosenIsBody
unfolding chosen_block_body chosen_data_sets blocks
chosen_is_body s size reference numbers pos least range =
    let c : Cut = cut_of s size reference (length numbers) in
    let bs : List (List ℕ) = first_blocks size (block_count size (length numbers)) numbers in
    let len : length bs ≡ c.count = length-first_blocks size (block_count size (length numbers)) numbers in
    let lawful = chosen_is_lawful _ _ len least (first_are_blocks s size (block_count size (length numbers)) numbers range) in
    record {
      data_sets = chosen_from c c.count 0 bs;
      lawful = lawful.0;
      text = (λ i. spelling s (chosen_from c (len i) 0 bs));
      told = (λ i. take (length numbers) (values_of (lawful.1 i))) ∙ first_values size (block_count size (length numbers)) numbers
          (blocks_enough size (length numbers) pos);
    }

-- ---- what is read is lawful

pub data_set_most : (s : CodeSet) (size left : ℕ) (t : CodedDataSet) → 1 ≤ left → IsCodedDataSet s size left t → blocks_in left t ≤ left
data_set_most s size left (Block o vs) pos h = pos
data_set_most s size left (Run n) pos h = h.1
data_set_most s size left RestOfSegment pos h = omega arith

abbrev AreTaken : Cut → ℕ → List Bool → List CodedDataSet × List Bool → Type 0
AreTaken c i bits x = AreCodedDataSets c i x.0 c.count × (bits ≡ spelling c.set x.0 ++ x.1)

pub data_sets_taken : (count half n i : ℕ) (c : Cut) (bits : List Bool) (x : List CodedDataSet × List Bool) → c.size ≡ 2 * half → 1 ≤ c.reference → i ≤ c.count
    → c.count ≤ n + i → data_sets_at count c n i bits ≡ Ok x → AreTaken c i bits x
unfolding data_sets_at AreCodedDataSets
data_sets_taken count half zero i c bits x even pos le fuel e = subst (AreTaken c i bits) (ok_is ([], bits) x e) (omega arith, refl)
data_sets_taken count half (suc n) i c bits x even pos le fuel e =
    elim (cases_lt _ _) [
      | inl more ↦
          (let test : leb c.count i ≡ false = lt-leb _ _ more in
          let site : Site = record { count = count; block = i } in
          let left : ℕ = left_at c i in
          let a = bind_ok _ (λ t. data_sets_at count c n (i + blocks_in left t.0) t.1 >>= λ ts. Ok (t.0 ∷ ts.0, ts.1)) _ (rw test at e) in
          let b = bind_ok (data_sets_at count c n (i + blocks_in left a.0.0) a.0.1) (λ ts. Ok (a.0.0 ∷ ts.0, ts.1)) _ a.2 in
          let some = rest_least _ _ _ pos more in
          let first = data_set_is_taken _ _ _ _ a.0.0 _ a.0.1 some (subst (λ (k : ℕ). data_set_at site c.set k left bits ≡ Ok (a.0.0, a.0.1)) even a.1) in
          let lawful : IsCodedDataSet c.set c.size left a.0.0 = subst (λ (k : ℕ). IsCodedDataSet c.set k left a.0.0) (sym even) first.1 in
          let least = data_set_some _ _ _ a.0.0 lawful in
          let most = data_set_most _ _ _ a.0.0 some lawful in
          let others = data_sets_taken count half n (i + blocks_in left a.0.0) c a.0.1 b.0 even pos (omega (arith, rest_most c i, most)) (omega (arith, least))
          b.1 in
          subst (AreTaken c i bits) (ok_is (a.0.0 ∷ b.0.0, b.0.1) _ b.2)
          ((lawful, others.0), first.0 ∙ (λ j. spelled c.set a.0.0 ++ others.1 j) ∙ sym (append_assoc (spelled c.set a.0.0) (spelling c.set b.0.0) b.0.1)))
      | inr done ↦
          (let test : leb c.count i ≡ true = le-leb _ _ done in
          subst (AreTaken c i bits) (ok_is _ _ (rw test at e)) (omega arith, refl))
    ]

pub body_is_read : BodyIsRead
unfolding block_body_at
body_is_read count s half reference n data_sets bits rest pos =
    let c : Cut = cut_of s (2 * half) reference n in (
      λ lawful text. rw text (data_sets_again count half _ _ _ data_sets rest refl (omega (arith, data_sets_few _ _ _ data_sets lawful)) lawful),
      λ e. data_sets_taken count half _ _ _ bits (data_sets, rest) refl pos (omega arith) (omega arith) e,
    )
