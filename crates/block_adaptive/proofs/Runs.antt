-- Several numbers that a reader gives at once.
use Rattle.std.proofs.Common.{arith}
use Rattle.std.proofs.Common.{◌≡◌, ℕ, ◌+◌, ◌^◌, ◌<◌, Bool, List, [], ◌∷◌, ◌++◌, Ok, Err, refl, sym, ap, subst, ◌∙◌, append_assoc, ◌*◌, pow_pos, replicate}
use Rattle.std.specs.List.{AllByRecursion}
use Rattle.std.proofs.lemmas.List.{append-nil}
use Rattle.cube_core.specs.declared.fault.Fault.{Fault}
use Rattle.header_bits.specs.Bits.{Unread}
use Rattle.header_bits.proofs.Reading.{ok_is}
use Rattle.header_bits.proofs.Fronts.{bind_ok}
use Rattle.block_adaptive.specs.Settings.{IsCut}
use Rattle.block_adaptive.specs.Reading.{data_sets_at}
use Rattle.block_adaptive.specs.Given.{ReaderState, HasGiven, GivesFront, GivesAll, holding, next_data_set}
use Rattle.block_adaptive.proofs.Handed.{data_set_given}
use Rattle.header_bits.proofs.Items.{all_append, all_first, all_last, all_replicate}
use Rattle.std.proofs.lemmas.Grind.{flat_map-append}
use Rattle.block_adaptive.specs.declared.options.CodeSet.{CodeSet}
use Rattle.block_adaptive.specs.DataSets.{CodedDataSet, Block as Whole, Run, RestOfSegment, Cut, left_at, IsCodedDataSet, AreCodedDataSets, blocks_of}
use Rattle.block_adaptive.specs.DataSets.{blocks_told, values_of, spelled, blocks_in}
use Rattle.header_bits.specs.Examples.{zeros}
use Rattle.block_adaptive.proofs.Places.{values_of_zeros}

-- ---- in range

zeros_range : (limit n size : ℕ) → 0 < limit → AllByRecursion (λ v. v < limit) (values_of (replicate n (zeros size)))
zeros_range limit n size pos = rw (values_of_zeros n size) (all_replicate _ (n * size) 0 pos)

data_set_range : (s : CodeSet) (size left : ℕ) (t : CodedDataSet) → IsCodedDataSet s size left t
    → AllByRecursion (λ v. v < 2 ^ s.bits) (values_of (blocks_of size left t))
data_set_range s size left (Whole o vs) h = rw (append-nil vs) h.range
data_set_range s size left (Run n) h = zeros_range (2 ^ s.bits) n size (pow_pos s.bits)
data_set_range s size left RestOfSegment h = zeros_range (2 ^ s.bits) left size (pow_pos s.bits)

pub told_range : (c : Cut) (i j : ℕ) (data_sets : List CodedDataSet) → AreCodedDataSets c i data_sets j
    → AllByRecursion (λ v. v < 2 ^ c.set.bits) (values_of (blocks_told c i data_sets))
unfolding AreCodedDataSets blocks_told
told_range c i j [] h = tt
told_range c i j (t ∷ data_sets) h =
    rw flat_map-append (all_append _ (values_of (blocks_of c.size (left_at c i) t)) _ (data_set_range _ _ _ t h.0)
    (told_range c (i + blocks_in (left_at c i) t) j data_sets h.1))

list_range : (v : ReaderState) (given list : List ℕ) (bits : List Bool) → HasGiven v (given ++ list) bits → AllByRecursion (λ n. n < 2 ^ v.cut.set.bits) list
list_range v given list bits h =
    let all = subst (λ (vs : List ℕ). AllByRecursion (λ n. n < 2 ^ v.cut.set.bits) vs) h.told (told_range _ _ _ h.data_sets h.lawful) in
    all_last _ given _ (all_first _ (given ++ list) v.held all)

-- ---- what was given

pub values_given : (v new : ReaderState) (given list : List ℕ) (bits : List Bool) → HasGiven v given bits → GivesFront v list new
    → HasGiven new (given ++ list) bits
values_given v new given list bits h front = grind (arith, append_assoc)

-- out of what was in hand
pub held_run : (v new : ReaderState) (list : List ℕ) (unread : List Bool) → GivesFront v list new → (given : List ℕ) (bits : List Bool) → HasGiven v given bits
    → GivesAll v given bits unread new unread list
held_run v new list unread front given bits h =
    let has : HasGiven new (given ++ list) bits = values_given _ _ _ _ _ h front in
    let same : new.cut ≡ v.cut = (λ i. (front.1 i).cut) in
    (subst (λ (c : Cut). AllByRecursion (λ n. n < 2 ^ c.set.bits) list) same (list_range _ _ _ _ has), [], refl, rw (append-nil _) has)

-- out of the data set that came next
pub taken_run : (v held new : ReaderState) (reader : Unread) (left : List Bool) (list : List ℕ) → IsCut v.cut → v.block < v.cut.count → v.held ≡ []
    → next_data_set v reader ≡ Ok (held, left) → GivesFront held list new → (given : List ℕ) (bits : List Bool) → HasGiven v given bits
    → GivesAll v given bits reader.left new left list
taken_run v held new reader left list cut more none e front given bits h =
    let a = bind_ok _ (λ t. Ok (holding v t.0, t.1)) _ e in
    let same = ok_is (holding v a.0.0, a.0.1) _ a.2 in
    let is : holding v a.0.0 ≡ held = (λ i. (same i).0) in
    let rest : a.0.1 ≡ left = (λ i. (same i).1) in
    let taken = data_set_given _ _ _ _ a.0.1 a.0.0 cut more none h a.1 in
    let read : List Bool = spelled v.cut.set a.0.0 in
    let has : HasGiven new (given ++ list) (bits ++ read) = values_given _ _ _ _ _ (rw is at taken.1) front in
    let kept : new.cut ≡ v.cut = (λ i. (front.1 i).cut) ∙ sym ((λ i. (is i).cut)) in (
      subst (λ (c : Cut). AllByRecursion (λ n. n < 2 ^ c.set.bits) list) kept (list_range _ _ _ _ has),
      read,
      taken.0 ∙ (λ i. read ++ rest i),
      has,
    )

-- the refusal that was met is as before
pub taken_kept : (v held : ReaderState) (reader : Unread) (left : List Bool) → next_data_set v reader ≡ Ok (held, left) → held.refused ≡ v.refused
taken_kept v held reader left e = grind arith

-- ---- one run after another

pub runs_joined : (v mid new : ReaderState) (given xs ys : List ℕ) (bits unread now left : List Bool) → mid.cut ≡ v.cut
    → (g : GivesAll v given bits unread mid now xs) → GivesAll mid (given ++ xs) (bits ++ g.1) now new left ys
    → GivesAll v given bits unread new left (xs ++ ys)
runs_joined v mid new given xs ys bits unread now left same g m = (
  all_append _ xs _ g.0 (subst (λ (c : Cut). AllByRecursion (λ n. n < 2 ^ c.set.bits) ys) same m.0),
  g.1 ++ m.1,
  g.2 ∙ (λ i. g.1 ++ m.2 i) ∙ sym (append_assoc _ m.1 _),
  rw (← append_assoc given xs ys, ← append_assoc bits g.1 m.1) m.3,
)

-- a refusal after numbers that were given is that of the body
pub run_refused : (v mid : ReaderState) (count now_count : ℕ) (xs given : List ℕ) (bits unread now : List Bool) (e : Fault) → mid.cut ≡ v.cut → now_count ≡ count
    → (g : GivesAll v given bits unread mid now xs) → ((ns : List ℕ) (bs : List Bool) → HasGiven mid ns bs
    → data_sets_at now_count mid.cut mid.cut.count 0 (bs ++ now) ≡ Err e) → data_sets_at count v.cut v.cut.count 0 (bits ++ unread) ≡ Err e
run_refused v mid count now_count xs given bits unread now e same counts g bad =
    let there = bad (given ++ xs) _ g.3 in
    (λ i. data_sets_at count v.cut v.cut.count 0 (bits ++ g.2 i)) ∙ ap (data_sets_at count v.cut v.cut.count 0) (sym (append_assoc bits g.1 now))
    ∙ ap (λ c. data_sets_at count c c.count 0 ((bits ++ g.1) ++ now)) (sym same)
    ∙ (λ i. data_sets_at ((sym counts) i) mid.cut mid.cut.count 0 ((bits ++ g.1) ++ now)) ∙ there
