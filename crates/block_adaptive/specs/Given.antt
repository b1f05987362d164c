-- The state of a reader of blocks, and the residuals that it has decoded.
use Rattle.std.specs.Prelude.{ℕ, ◌≡◌, ◌+◌, ◌-◌, ◌*◌, ◌^◌, ◌<◌, ◌≤◌, Bool, List, [], ◌∷◌, ◌++◌, length, Result, Ok, Err, MatchResult, Option, None}
use Rattle.std.specs.List.{AllByRecursion}
use Rattle.cube_core.specs.declared.fault.Fault.{Fault}
use Rattle.cube_core.specs.Steps.{◌>>=◌}
use Rattle.cube_core.specs.Shape.{sample_count}
use Rattle.header_bits.specs.declared.params.Params.{Params}
use Rattle.header_bits.specs.Bits.{Unread}
use Rattle.block_adaptive.specs.Settings.{IsBlock, IsCutOf, cut_by}
use Rattle.block_adaptive.specs.DataSets.{CodedDataSet, Cut, AreCodedDataSets, left_at, blocks_in, blocks_of, blocks_told, spelling, values_of}
use Rattle.block_adaptive.specs.Reading.{site_of, data_set_at, data_sets_at}

-- how the residuals are cut, the block of the next data set, the values that were read but not returned yet, and the fault of a refused read, if one was
pub record ReaderState : Type 0 where
  pub cut : Cut
  pub block : ℕ
  pub held : List ℕ
  pub refused : Option Fault

-- the state after a data set was read, with its values to be returned
abbrev pub holding : ReaderState → CodedDataSet → ReaderState
holding v t = record v { block = v.block + blocks_in (left_at v.cut v.block) t; held = values_of (blocks_of v.cut.size (left_at v.cut v.block) t) }

-- reading the next data set
abbrev pub next_data_set : ReaderState → Unread → Result (ReaderState × List Bool) Fault
next_data_set v reader =
    data_set_at (site_of reader v.block) v.cut.set v.cut.size (left_at v.cut v.block) reader.left >>= λ t. Ok (holding v t.0, t.1)

-- the state with values to be returned: as it is if there are any, else after the next data set was read
abbrev pub in_hand : ReaderState → Unread → List ℕ → Result (ReaderState × List Bool) Fault
in_hand v reader [] = next_data_set v reader
in_hand v reader (value ∷ held) = Ok (v, reader.left)

-- the residuals `given` were decoded from the bits: these are whole lawful data sets, whose values are those returned, then those held
pub record HasGiven (v : ReaderState) (given : List ℕ) (bits : List Bool) : Type 0 where
  pub data_sets : List CodedDataSet
  pub lawful : AreCodedDataSets v.cut 0 data_sets v.block
  pub text : bits ≡ spelling v.cut.set data_sets
  pub told : values_of (blocks_told v.cut 0 data_sets) ≡ given ++ v.held
  pub working : v.refused ≡ None

-- the number of values returned
abbrev pub given_count : ReaderState → ℕ
given_count v = v.block * v.cut.size - length v.held

-- the first value held was returned
abbrev pub GivesFirst : ReaderState → ℕ → ReaderState → Type 0
GivesFirst v value new = (v.held ≡ value ∷ new.held) × (new ≡ record v { held = new.held })

-- the first values held were returned
abbrev pub GivesFront : ReaderState → List ℕ → ReaderState → Type 0
GivesFront v values new = (v.held ≡ values ++ new.held) × (new ≡ record v { held = new.held })

-- some bits were read, from which the residuals `list` were decoded, each below 2^D
abbrev pub GivesAll : ReaderState → List ℕ → List Bool → List Bool → ReaderState → List Bool → List ℕ → Type 0
GivesAll old given bits unread new left list =
    AllByRecursion (λ v. v < 2 ^ old.cut.set.bits) list × (read : List Bool) × (unread ≡ read ++ left) × HasGiven new (given ++ list) (bits ++ read)

-- whatever was decoded before: on success the result's residuals were decoded after them; a refusal is the first fault of the whole body
abbrev pub GivesMore : {X : Type 0} → (X → List ℕ) → ReaderState → Unread → Result X Fault → ReaderState → List Bool → Type 0
GivesMore numbers_of old reader result new left =
    (given : List ℕ) (bits : List Bool) → HasGiven old given bits
    → MatchResult result (λ answer. GivesAll old given bits reader.left new left (numbers_of answer))
    (λ fault. data_sets_at reader.count old.cut old.cut.count 0 (bits ++ reader.left) ≡ Err fault)

-- the same for the next residual
abbrev pub GivesNext : ReaderState → Unread → Result ℕ Fault → ReaderState → List Bool → Type 0
GivesNext old reader result new left = GivesMore (λ value. value ∷ []) old reader result new left

-- the same for successive residuals
abbrev pub GivesRun : ReaderState → Unread → Result (Unit {0}) Fault → ReaderState → List Bool → List ℕ → Type 0
GivesRun old reader result new left list = GivesMore (λ _. list) old reader result new left

-- the residuals of an image that were decoded from the bits; no more blocks were read than the image has
pub record HasGivenOf (p : Params) (v : ReaderState) (numbers : List ℕ) (bits : List Bool) : Type 0 where
  pub coder : IsBlock p.coder
  pub cut : v.cut ≡ cut_by p
  pub room : IsCutOf (sample_count p.shape) v.cut
  pub inside : v.block ≤ v.cut.count
  pub given : HasGiven v numbers bits
  pub count : given_count v ≡ length numbers

-- some bits were read, from which the residuals `list` of the image were decoded, each below 2^D
abbrev pub GivesAllOf : Params → List ℕ → List Bool → List Bool → ReaderState → List Bool → List ℕ → Type 0
GivesAllOf p numbers bits unread new left list =
    AllByRecursion (λ n. n < 2 ^ p.kind.bits) list × (read : List Bool) × (unread ≡ read ++ left) × HasGivenOf p new (numbers ++ list) (bits ++ read)

-- on success the result's residuals were decoded; a refusal is the first fault of the image's body
abbrev pub GivesMoreOf : {X : Type 0} → (X → List ℕ) → Result X Fault → Params → List ℕ → List Bool → Unread → ReaderState → List Bool → Type 0
GivesMoreOf numbers_of result p numbers bits unread new left =
    MatchResult result (λ answer. GivesAllOf p numbers bits unread.left new left (numbers_of answer))
    (λ fault. data_sets_at unread.count (cut_by p) (cut_by p).count 0 (bits ++ unread.left) ≡ Err fault)
