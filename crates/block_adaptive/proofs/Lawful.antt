-- The chosen data sets are lawful, and stand for the blocks.
use Rattle.std.proofs.Common.{◌≡◌, ℕ, zero, suc, ◌+◌, ◌%◌, ◌<◌, ◌≤◌, Bool, true, false, cond, eqb, leb, ◌&&◌, List, [], ◌∷◌, length, take, drop, replicate}
use Rattle.std.proofs.Common.{refl, sym, ◌∙◌, arith, lit<}
use Rattle.std.proofs.lemmas.Bool.{eqb-true, eqb-false}
use Rattle.std.proofs.lemmas.List.{take-append-drop, length-drop}
use Rattle.std.proofs.Math.Nat.{mod-lt}
use Rattle.std.proofs.lemmas.Nat.{mod_below}
use Rattle.block_adaptive.specs.declared.options.CodeSet.{CodeSet}
use Rattle.block_adaptive.specs.Segments.{segment_rest}
use Rattle.block_adaptive.specs.DataSets.{CodedDataSet, Block, Run, RestOfSegment, Cut, IsCodedDataSet, blocks_in, blocks_of, AreCodedDataSets, blocks_told}
use Rattle.block_adaptive.specs.Chosen.{chosen_option, is_zero, zero_blocks, data_set_of, chosen_from}
use Rattle.block_adaptive.specs.Laws.{AreBlocks, ChosenIsLawful}
use Rattle.block_adaptive.proofs.Tried.{option_is_least}
use Rattle.header_bits.proofs.Items.{all_drop}
use Rattle.block_adaptive.proofs.Powers.{and_true}

-- ---- runs

pub zeros_of : (b : List ℕ) (size : ℕ) → length b ≡ size → is_zero b ≡ true → b ≡ replicate size 0
zeros_of [] zero e h = refl
zeros_of [] (suc size) e h = absurd (omega arith)
zeros_of (v ∷ vs) zero e h = absurd (omega arith)
zeros_of (v ∷ vs) (suc size) e h =
    let p = and_true (eqb v 0) (is_zero vs) h in
    rw (eqb-true v _ p.0, zeros_of vs size (omega arith) p.1) refl

run_at_most : (n : ℕ) (bs : List (List ℕ)) → (zero_blocks n bs ≤ n) × (zero_blocks n bs ≤ length bs)
run_at_most zero bs = (omega arith, omega arith)
run_at_most (suc n) [] = (omega arith, omega arith)
run_at_most (suc n) (b ∷ bs) = grind (arith, run_at_most n bs)

run_is_zeros : (s : CodeSet) (size n : ℕ) (bs : List (List ℕ)) → AreBlocks s size bs → take (zero_blocks n bs) bs ≡ replicate (zero_blocks n bs)
    (replicate size 0)
run_is_zeros s size zero bs h = refl
run_is_zeros s size (suc n) [] h = refl
run_is_zeros s size (suc n) (b ∷ bs) h = grind (arith, zeros_of, run_is_zeros s size n bs h.1)

-- ---- one data set

record Fine (s : CodeSet) (size left : ℕ) (bs : List (List ℕ)) (t : CodedDataSet) : Type 0 where
  lawful : IsCodedDataSet s size left t
  least : 1 ≤ blocks_in left t
  most : blocks_in left t ≤ length bs
  told : blocks_of size left t ≡ take (blocks_in left t) bs

pick : (s : CodeSet) (size left : ℕ) (b : List ℕ) (bs : List (List ℕ)) → 1 ≤ left → AreBlocks s size (b ∷ bs) → (k : ℕ) → k ≡ zero_blocks left (b ∷ bs)
    → (e f : Bool) → eqb k 0 ≡ e → (eqb k left && leb 5 k) ≡ f → Fine s size left (b ∷ bs) (cond e (Block (chosen_option s b) b) (cond f RestOfSegment (Run k)))
pick s size left b bs pos h k is true f none test = grind (arith, option_is_least)
pick s size left b bs pos h k is false true none test =
    let same : k ≡ left = eqb-true k left (and_true (eqb k left) (leb 5 k) test).0 in
    let most = run_at_most left (b ∷ bs) in
    record { lawful = pos; least = pos; most = omega (arith, most.1); told = rw (sym same ∙ is) (sym (run_is_zeros s size left (b ∷ bs) h)) }
pick s size left b bs pos h k is false false none test =
    let some : k ≡ 0 → ⊥ = eqb-false k 0 none in
    let most = run_at_most left (b ∷ bs) in
    record {
      lawful = (omega arith, omega (arith, most.0));
      least = omega arith;
      most = omega (arith, most.1);
      told = rw is (sym (run_is_zeros s size left (b ∷ bs) h));
    }

data_set_is_fine : (s : CodeSet) (size left : ℕ) (b : List ℕ) (bs : List (List ℕ)) → 1 ≤ left → AreBlocks s size (b ∷ bs)
    → Fine s size left (b ∷ bs) (data_set_of s left b bs)
data_set_is_fine s size left b bs pos h = pick s size left b bs pos h (zero_blocks left (b ∷ bs)) refl _ _ refl refl

-- ---- all data sets

pub rest_least : (r n i : ℕ) → 1 ≤ r → i < n → 1 ≤ segment_rest r n i
unfolding segment_rest
rest_least r n i hr hi = omega (arith, mod-lt (i % r) {m = 64} (lit< tt), mod_below i r hr)

from_lawful : (c : Cut) (n i : ℕ) (bs : List (List ℕ)) → length bs ≤ n → i + length bs ≡ c.count → 1 ≤ c.reference → AreBlocks c.set c.size bs
    → AreCodedDataSets c i (chosen_from c n i bs) c.count × (blocks_told c i (chosen_from c n i bs) ≡ bs)
unfolding AreCodedDataSets chosen_from blocks_told
from_lawful c zero i [] few all pos h = (omega arith, refl)
from_lawful c zero i (b ∷ bs) few all pos h = absurd (omega arith)
from_lawful c (suc n) i [] few all pos h = (omega arith, refl)
from_lawful c (suc n) i (b ∷ bs) few all pos h =
    let left : ℕ = segment_rest c.reference c.count i in
    let t : CodedDataSet = data_set_of c.set left b bs in
    let k : ℕ = blocks_in left t in
    let fine = data_set_is_fine c.set c.size left b bs (rest_least c.reference c.count i pos (omega arith)) h in
    let len = length-drop k (b ∷ bs) in
    let others = from_lawful c n (i + k) (drop k (b ∷ bs)) (omega (arith, fine.least, fine.most)) (omega (arith, fine.least, fine.most)) pos
    (all_drop _ k (b ∷ bs) h) in
    ((fine.lawful, others.0), rw (others.1, fine.told) (take-append-drop k (b ∷ bs)))

pub chosen_is_lawful : ChosenIsLawful
chosen_is_lawful c bs len pos h = from_lawful c c.count 0 bs (omega arith) (omega arith) pos h
