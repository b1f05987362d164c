-- What callers of the reader and the writer of blocks know.
use Rattle.std.proofs.Common.{◌≡◌, ℕ, zero, suc, ◌+◌, ◌-◌, ◌*◌, ◌<◌, ◌≤◌, Bool, false, leb, List, [], ◌∷◌, ◌++◌, length, replicate, Ok, Err, refl, sym, ap}
use Rattle.std.proofs.Common.{subst, ◌∙◌, inl, inr, arith, append_assoc}
use Rattle.std.proofs.lemmas.Bool.{lt-leb}
use Rattle.std.proofs.lemmas.List.{append-nil, length-append, length-replicate}
use Rattle.cube_core.specs.declared.fault.Fault.{Fault}
use Rattle.header_bits.specs.Bits.{Unread}
use Rattle.header_bits.proofs.Fronts.{bind_err}
use Rattle.block_adaptive.specs.declared.options.CodeSet.{CodeSet}
use Rattle.block_adaptive.specs.Segments.{blocks, first_blocks, block_count}
use Rattle.block_adaptive.specs.DataSets.{CodedDataSet, Block, Run, RestOfSegment, Cut, capacity, left_at, IsCodedDataSet, AreCodedDataSets, blocks_in}
use Rattle.block_adaptive.specs.DataSets.{blocks_of, blocks_told, values_of, spelled, spelling}
use Rattle.block_adaptive.specs.Chosen.{chosen_from, chosen_data_sets, chosen_block_body}
use Rattle.block_adaptive.specs.Reading.{Site, site_of, data_set_at, data_sets_at}
use Rattle.block_adaptive.specs.Settings.{IsCut}
use Rattle.block_adaptive.specs.Given.{ReaderState, HasGiven, given_count, holding, next_data_set}
use Rattle.block_adaptive.specs.Prefixes.{TakenIsPrefix}
use Rattle.block_adaptive.proofs.Again.{data_set_again}
use Rattle.block_adaptive.proofs.Bodies.{length-first_blocks, data_set_some, data_sets_few}
use Rattle.block_adaptive.proofs.Counts.{data_set_left}
use Rattle.block_adaptive.proofs.Handed.{size_least, size_halved}
use Rattle.block_adaptive.proofs.Packing.{values_length, first_of_blocks}
use Rattle.std.proofs.lemmas.Grind.{flat_map-append}
use Rattle.block_adaptive.proofs.Intervals.{count_least}

-- ---- data sets and the blocks that they stand for

zeros_length : (n size : ℕ) → length (values_of (replicate n (replicate size 0))) ≡ n * size
zeros_length zero size = omega arith
zeros_length (suc n) size = grind (arith, length-append, length-replicate, zeros_length n size)

data_set_blocks : (s : CodeSet) (size left : ℕ) (t : CodedDataSet) → IsCodedDataSet s size left t → length (values_of (blocks_of size left t))
    ≡ blocks_in left t * size
data_set_blocks s size left (Block o vs) h = omega (arith, ap length (append-nil vs), h.whole)
data_set_blocks s size left (Run n) h = zeros_length n size
data_set_blocks s size left RestOfSegment h = zeros_length left size

pub told_length : (c : Cut) (i j : ℕ) (data_sets : List CodedDataSet) → AreCodedDataSets c i data_sets j
    → i * c.size + length (values_of (blocks_told c i data_sets)) ≡ j * c.size
unfolding AreCodedDataSets blocks_told
told_length c i j [] h = rw h (omega arith)
told_length c i j (t ∷ data_sets) h =
    let k : ℕ = blocks_in (left_at c i) t in
    let here = data_set_blocks c.set c.size (left_at c i) t h.0 in
    let rest = told_length c (i + k) j data_sets h.1 in
    let both : length (values_of (blocks_of c.size (left_at c i) t ++ blocks_told c (i + k) data_sets))
    ≡ length (values_of (blocks_of c.size (left_at c i) t)) + length (values_of (blocks_told c (i + k) data_sets)) =
    ap length (flat_map-append _ (blocks_of c.size (left_at c i) t) (blocks_told c (i + k) data_sets))
    ∙ length-append (values_of (blocks_of c.size (left_at c i) t)) (values_of (blocks_told c (i + k) data_sets)) in
    let spread : (i + k) * c.size ≡ i * c.size + k * c.size = omega arith in
    omega arith

-- ---- the whole body

-- lawful data sets, and then a data set that is refused: so is the body
data_sets_refused : (count half n i j : ℕ) (c : Cut) (data_sets : List CodedDataSet) (left : List Bool) (e : Fault) → c.size ≡ 2 * half → j < c.count
    → c.count ≤ n + i → AreCodedDataSets c i data_sets j → data_set_at (record { count = count; block = j }) c.set c.size (left_at c j) left ≡ Err e
    → data_sets_at count c n i (spelling c.set data_sets ++ left) ≡ Err e
unfolding data_sets_at AreCodedDataSets
data_sets_refused count half zero i j c [] left e even lt fuel h bad = absurd (omega (arith, h))
data_sets_refused count half zero i j c (t ∷ data_sets) left e even lt fuel h bad =
    absurd (omega (arith, data_set_some _ _ _ t h.0, data_sets_few _ (i + blocks_in (left_at c i) t) _ _ h.1))
data_sets_refused count half (suc n) i j c [] left e even lt fuel h bad =
    let more : leb c.count i ≡ false = lt-leb _ _ (omega (arith, h)) in
    let here : data_set_at (record { count = count; block = i }) c.set c.size (left_at c i) left ≡ Err e =
    subst (λ (k : ℕ). data_set_at (record { count = count; block = k }) c.set c.size (left_at c k) left ≡ Err e) (sym h) bad in
    rw (more, here) refl
data_sets_refused count half (suc n) i j c (t ∷ data_sets) left e even lt fuel h bad =
    let some = data_set_some _ _ _ t h.0 in
    let more : leb c.count i ≡ false = lt-leb _ _ (omega (arith, some, data_sets_few _ (i + blocks_in (left_at c i) t) _ _ h.1)) in
    let site : Site = record { count = count; block = i } in
    let after : List Bool = spelling c.set data_sets ++ left in
    let one : data_set_at site c.set c.size (left_at c i) (spelled c.set t ++ after) ≡ Ok (t, after) =
    rw even (data_set_again _ _ _ _ t _ (subst (λ (k : ℕ). IsCodedDataSet c.set k (left_at c i) t) even h.0)) in
    let others = data_sets_refused count half n (i + blocks_in (left_at c i) t) j c data_sets left e even lt (omega arith) h.1 bad in
    rw (more, append_assoc (spelled c.set t) _ _, one, others) refl

-- a refusal of the next data set is that of the body, out of which the numbers given were read
body_refused : (v : ReaderState) (given : List ℕ) (bits left : List Bool) (count : ℕ) (e : Fault) → IsCut v.cut → given_count v < capacity v.cut → v.held ≡ []
    → HasGiven v given bits → data_set_at (record { count = count; block = v.block }) v.cut.set v.cut.size (left_at v.cut v.block) left ≡ Err e
    → data_sets_at count v.cut v.cut.count 0 (bits ++ left) ≡ Err e
body_refused v given bits left count e cut few none h bad =
    let lt : v.block < v.cut.count = data_set_left v few none in
    (λ i. data_sets_at count v.cut v.cut.count 0 (h.text i ++ left)) ∙ data_sets_refused _ _ _ _ _ _ h.data_sets _ _ (sym (size_halved _ cut.size)) lt
    (omega arith) h.lawful bad

no_step : (x : ReaderState × List Bool) (e : Fault) → Ok x ≡ Err e → ⊥
no_step x e h = absurd (cc)

-- so is that of a number that would come next
pub next_refused : (v : ReaderState) (reader : Unread) (e : Fault) → IsCut v.cut → given_count v < capacity v.cut → v.held ≡ [] → next_data_set v reader ≡ Err e
    → (given : List ℕ) (bits : List Bool) → HasGiven v given bits → data_sets_at reader.count v.cut v.cut.count 0 (bits ++ reader.left) ≡ Err e
next_refused v reader e cut few none bad given bits h =
    let site : Site = site_of reader v.block in
    let text : data_set_at site v.cut.set v.cut.size (left_at v.cut v.block) reader.left ≡ Err e =
    elim (bind_err _ _ _ bad) [ inl k ↦ k | inr (x, k, m) ↦ absurd (no_step (holding v x.0, x.1) e m) ] in
    body_refused v given bits reader.left reader.count e cut few none h text

-- ---- what was appended is a prefix of the body

pub taken_is_prefix : TakenIsPrefix
unfolding chosen_block_body chosen_data_sets blocks
taken_is_prefix v taken future bits cut count h =
    let c : Cut = v.cut in
    let rest : List ℕ = v.held ++ future in
    let numbers : taken ++ future ≡ values_of h.blocks ++ rest = (λ i. h.numbers i ++ future) ∙ append_assoc (values_of h.blocks) v.held future in
    let size : length (taken ++ future) ≡ length h.blocks * c.size + length rest = ap length numbers ∙ length-append (values_of h.blocks) _
    ∙ (λ i. (values_length c.set _ h.blocks h.whole) i + length rest) in
    let many : length h.blocks ≤ c.count = subst (λ (k : ℕ). length h.blocks ≤ k) (ap (block_count c.size) (sym size) ∙ count)
    (count_least _ (length h.blocks) _ (omega (arith, size_least _ cut.size))) in
    let m : ℕ = c.count - length h.blocks in
    let whole : length h.blocks + m ≡ c.count = omega arith in
    let cut-so : first_blocks c.size c.count (taken ++ future) ≡ h.blocks ++ first_blocks c.size m rest =
    (λ i. first_blocks c.size ((sym whole) i) (taken ++ future)) ∙ ap (first_blocks c.size (length h.blocks + m)) numbers
    ∙ first_of_blocks c.set _ _ h.blocks _ h.whole in
    let length-so : length (h.blocks ++ first_blocks c.size m rest) ≡ c.count =
    omega (arith, length-append h.blocks (first_blocks c.size m rest), length-first_blocks c.size m rest) in
    let goes = h.goes_on _ (omega (arith, length-first_blocks c.size m rest)) in
    (spelling c.set (chosen_from c c.count v.start (replicate v.zeros (replicate c.size 0) ++ first_blocks c.size m rest)), rw (count, cut-so, length-so) goes)
