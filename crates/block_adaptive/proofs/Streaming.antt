-- The chosen data sets, block after block, as a writer sees them.
use Rattle.std.proofs.Common.{◌≡◌, ℕ, zero, suc, ◌+◌, ◌<◌, ◌≤◌, Bool, true, false, cond, eqb, leb, ◌&&◌, List, [], ◌∷◌, ◌++◌, length, drop, replicate, refl, ap}
use Rattle.std.proofs.Common.{sym, ◌∙◌}
use Rattle.std.proofs.Common.{arith}
use Rattle.std.proofs.lemmas.Bool.{eqb-false, ne_eqb}
use Rattle.std.proofs.lemmas.List.{length-drop, length-replicate, drop_at}
use Rattle.block_adaptive.specs.declared.options.CodeSet.{CodeSet}
use Rattle.block_adaptive.specs.Segments.{segment_rest}
use Rattle.block_adaptive.specs.DataSets.{CodedDataSet, Block, Run, RestOfSegment, Cut, blocks_in}
use Rattle.block_adaptive.specs.Chosen.{chosen_option, is_zero, zero_blocks, data_set_of, chosen_from}
use Rattle.std.proofs.lemmas.Bool.Decides.{nat_tests}

-- a data set stands for a block or more
data_set_least : (s : CodeSet) (left : ℕ) (b : List ℕ) (bs : List (List ℕ)) → 1 ≤ blocks_in left (data_set_of s left b bs)
data_set_least s left b bs = (let k : ℕ = zero_blocks left (b ∷ bs) in go k (eqb k 0) (eqb k left) (leb 5 k) refl refl)
  where
    go : (k : ℕ) (d e f : Bool) → eqb k 0 ≡ d → eqb k left ≡ e → 1 ≤ blocks_in left (cond d (Block (chosen_option s b) b) (cond (e && f) RestOfSegment (Run k)))
    go k true e f p q = omega arith
    go k false true f p q = grind (arith, nat_tests)
    go k false false f p q = (let h : k ≡ 0 → ⊥ = eqb-false k 0 p in omega arith)

pub none_chosen : (c : Cut) (n i : ℕ) → chosen_from c n i [] ≡ []
unfolding chosen_from
none_chosen c zero i = refl
none_chosen c (suc n) i = refl

-- the number of data sets that may come doesn't matter, once it is enough
pub enough : (c : Cut) (n m i : ℕ) (bs : List (List ℕ)) → length bs ≤ n → length bs ≤ m → chosen_from c n i bs ≡ chosen_from c m i bs
unfolding chosen_from
enough c n m i [] h k = none_chosen c n i ∙ sym (none_chosen c m i)
enough c (suc n) (suc m) i (b ∷ bs) h k =
    let left : ℕ = segment_rest c.reference c.count i in
    let t : CodedDataSet = data_set_of c.set left b bs in
    let some = data_set_least c.set left b bs in
    let len = length-drop (blocks_in left t) (b ∷ bs) in
    ap (λ ts. t ∷ ts) (enough c n m (i + blocks_in left t) (drop (blocks_in left t) (b ∷ bs)) (omega arith) (omega arith))
enough c n m i bs h k = absurd (omega arith)

pub zero_is : (size : ℕ) → is_zero (replicate size 0) ≡ true
zero_is zero = refl
zero_is (suc size) = zero_is size

-- ---- runs

pub run_broken : (size left z : ℕ) (x : List ℕ) (bs : List (List ℕ)) → is_zero x ≡ false → z ≤ left
    → zero_blocks left (replicate z (replicate size 0) ++ x ∷ bs) ≡ z
run_broken size zero z x bs h le = omega arith
run_broken size (suc left) zero x bs h le = rw h refl
run_broken size (suc left) (suc z) x bs h le = rw (zero_is size, run_broken size left z x bs h (omega arith)) refl

pub run_whole : (size left : ℕ) (bs : List (List ℕ)) → zero_blocks left (replicate left (replicate size 0) ++ bs) ≡ left
run_whole size zero bs = refl
run_whole size (suc left) bs = rw (zero_is size, run_whole size left bs) refl

-- a block that isn't zeros is written at once
pub block_next : (c : Cut) (n i : ℕ) (x : List ℕ) (bs : List (List ℕ)) → 1 ≤ segment_rest c.reference c.count i → is_zero x ≡ false
    → chosen_from c (suc n) i (x ∷ bs) ≡ Block (chosen_option c.set x) x ∷ chosen_from c n (i + 1) bs
unfolding chosen_from
block_next c n i x bs pos h = grind arith

-- zeros before it, fewer than the segment's rest, are a run
pub run_next : (c : Cut) (n i z : ℕ) (x : List ℕ) (bs : List (List ℕ)) → suc z < segment_rest c.reference c.count i → is_zero x ≡ false
    → chosen_from c (suc n) i (replicate (suc z) (replicate c.size 0) ++ x ∷ bs) ≡ Run (suc z) ∷ chosen_from c n (i + suc z) (x ∷ bs)
unfolding chosen_from
run_next c n i z x bs lt h =
    let left : ℕ = segment_rest c.reference c.count i in
    let k : zero_blocks left (replicate (suc z) (replicate c.size 0) ++ x ∷ bs) ≡ suc z = run_broken c.size left (suc z) x bs h (omega arith) in
    let a : eqb (suc z) 0 ≡ false = ne_eqb _ _ (λ e. omega arith) in
    let b : eqb (suc z) left ≡ false = ne_eqb _ _ (λ e. omega arith) in
    rw (k, a, b, drop_at (replicate z (replicate c.size 0)) (x ∷ bs) z (length-replicate _ _)) refl

-- zeros up to the segment's end are a run
pub run_to_end : (c : Cut) (n i z : ℕ) (bs : List (List ℕ)) → segment_rest c.reference c.count i ≡ suc z
    → chosen_from c (suc n) i (replicate (suc z) (replicate c.size 0) ++ bs) ≡ cond (leb 5 (suc z)) RestOfSegment (Run (suc z)) ∷ chosen_from c n (i + suc z) bs
unfolding chosen_from
run_to_end c n i z bs is = grind (arith, drop_at, length-replicate, run_whole, zero_is)
