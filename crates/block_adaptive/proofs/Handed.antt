-- What a reader has in hand.
use Rattle.std.proofs.Common.{◌≡◌, ℕ, ◌+◌, ◌-◌, ◌*◌, ◌<◌, ◌≤◌, Bool, List, [], ◌∷◌, ◌++◌, None, Ok, ◌/◌, refl, sym, ap, ◌∙◌, arith}
use Rattle.std.proofs.Common.{append_assoc}
use Rattle.std.proofs.lemmas.List.{append-nil}
use Rattle.header_bits.specs.Bits.{Unread}
use Rattle.block_adaptive.specs.Segments.{segment_rest}
use Rattle.block_adaptive.specs.Settings.{IsSize, IsCut}
use Rattle.block_adaptive.specs.Holding.{AreParts}
use Rattle.block_adaptive.specs.Reading.{site_of, data_set_at}
use Rattle.block_adaptive.proofs.Lawful.{rest_least}
use Rattle.block_adaptive.proofs.Taken.{data_set_is_taken}
use Rattle.block_adaptive.specs.DataSets.{CodedDataSet, Cut, IsCodedDataSet, AreCodedDataSets, left_at, blocks_in, blocks_of, blocks_told, values_of, spelled}
use Rattle.block_adaptive.specs.DataSets.{spelling}
use Rattle.block_adaptive.specs.Given.{ReaderState, HasGiven, holding}
use Rattle.std.proofs.lemmas.Grind.{flat_map-append}

pub nothing_held : (v : ReaderState) → v.block ≡ 0 → v.held ≡ [] → v.refused ≡ None → HasGiven v [] []
unfolding AreCodedDataSets blocks_told
nothing_held v at_start none working = record { data_sets = []; lawful = sym at_start; text = refl; told = sym none; working = working }

pub size_most : (size : ℕ) → IsSize size → size ≤ 64
size_most size h = grind arith

pub size_least : (size : ℕ) → IsSize size → 8 ≤ size
size_least size h = grind arith

pub size_halved : (size : ℕ) → IsSize size → 2 * (size / 2) ≡ size
size_halved size h = grind arith

pub rest_most : (c : Cut) (i : ℕ) → left_at c i ≤ c.count - i
unfolding segment_rest
rest_most c i = omega arith

pub rest_small : (reference count i : ℕ) → segment_rest reference count i ≤ 64
unfolding segment_rest
rest_small reference count i = omega arith

-- a run in hand keeps the parts in range
pub run_parts : (c : Cut) (i given counted n : ℕ) → AreParts c i given counted → n ≤ left_at c i → AreParts c (i + n) c.size (n * c.size)
run_parts c i given counted n h le = (let most : left_at c i ≤ 64 = rest_small c.reference c.count i in grind (arith, rest_most))

-- ---- one data set more

pub data_sets_push : (c : Cut) (i j : ℕ) (data_sets : List CodedDataSet) (t : CodedDataSet) → AreCodedDataSets c i data_sets j
    → IsCodedDataSet c.set c.size (left_at c j) t → AreCodedDataSets c i (data_sets ++ t ∷ []) (j + blocks_in (left_at c j) t)
unfolding AreCodedDataSets
data_sets_push c i j [] t h lawful = rw h (lawful, refl)
data_sets_push c i j (u ∷ data_sets) t h lawful = (h.0, data_sets_push c (i + blocks_in (left_at c i) u) j data_sets t h.1 lawful)

pub told_push : (c : Cut) (i j : ℕ) (data_sets : List CodedDataSet) (t : CodedDataSet) → AreCodedDataSets c i data_sets j
    → blocks_told c i (data_sets ++ t ∷ []) ≡ blocks_told c i data_sets ++ blocks_of c.size (left_at c j) t
unfolding AreCodedDataSets blocks_told
told_push c i j [] t h = rw h (append-nil (blocks_of c.size (left_at c j) t))
told_push c i j (u ∷ data_sets) t h = grind (arith, append_assoc, told_push c (i + blocks_in (left_at c i) u) j data_sets t h.1)

-- ---- what was given

pub data_set_given : (v : ReaderState) (reader : Unread) (given : List ℕ) (bits left : List Bool) (t : CodedDataSet) → IsCut v.cut → v.block < v.cut.count
    → v.held ≡ [] → HasGiven v given bits → data_set_at (site_of reader v.block) v.cut.set v.cut.size (left_at v.cut v.block) reader.left ≡ Ok (t, left)
    → (reader.left ≡ spelled v.cut.set t ++ left) × HasGiven (holding v t) given (bits ++ spelled v.cut.set t)
data_set_given v reader given bits left t cut more none h e =
    let half = size_halved _ cut.size in
    let pos = rest_least _ _ _ cut.reference.0 more in
    let found = data_set_is_taken (site_of reader v.block) v.cut.set (v.cut.size / 2) (left_at v.cut v.block) t reader.left left pos (rw half e) in
    let lawful : IsCodedDataSet v.cut.set v.cut.size (left_at v.cut v.block) t = rw half at found.1 in (
      found.0,
      record {
        data_sets = h.data_sets ++ t ∷ [];
        lawful = data_sets_push v.cut 0 v.block h.data_sets t h.lawful lawful;
        text = ap (λ bs. bs ++ spelled v.cut.set t) h.text
            ∙ sym (flat_map-append _ h.data_sets _ ∙ ap (λ bs. spelling v.cut.set h.data_sets ++ bs) (append-nil _));
        told = ap values_of (told_push _ _ _ h.data_sets _ h.lawful) ∙ flat_map-append _ (blocks_told v.cut 0 h.data_sets) _
            ∙ ap (λ vs. vs ++ values_of (blocks_of v.cut.size (left_at v.cut v.block) t)) (h.told ∙ ap (λ held. given ++ held) none ∙ append-nil _);
        working = h.working;
      },
    )
