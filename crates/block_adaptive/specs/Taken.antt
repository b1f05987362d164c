-- The state of a writer of blocks, and the residuals that it has taken.
use Rattle.std.specs.Prelude.{ℕ, ◌≡◌, ◌+◌, ◌-◌, ◌*◌, ◌%◌, ◌<◌, ◌≤◌, ◌==◌, nat_le, Bool, if◌then◌else◌, List, [], ◌∷◌, ◌++◌, length, max, replicate}
use Rattle.header_bits.specs.Bits.{Written}
use Rattle.block_adaptive.specs.declared.options.CodeSet.{CodeSet}
use Rattle.block_adaptive.specs.Segments.{block_count, filled}
use Rattle.block_adaptive.specs.DataSets.{CodedDataSet, Block, Run, RestOfSegment, Cut, left_at, spelling, values_of}
use Rattle.block_adaptive.specs.Chosen.{chosen_option, chosen_from, chosen_block_body, is_zero}
use Rattle.block_adaptive.specs.Laws.{AreBlocks}

-- the bits were appended within the writer's room
pub record Writes (old new : Written) (text : List Bool) : Type 0 where
  pub appended : new.bits ≡ old.bits ++ text
  pub spent : old.room ≡ new.room + length text

-- a writer's memory didn't grow, or at most to twice the bits that are written now, in whole bytes
pub record GrowsByNeed (old new : Written) : Type 0 where
  pub longer : length old.bits ≤ length new.bits
  pub bounded : length new.bits + new.room ≤ max (length old.bits + old.room) (2 * length new.bits + 7)

-- how the residuals are cut, the first block of which nothing was written, the number of zero blocks held from there on, and the values of the block begun
pub record WriterState : Type 0 where
  pub cut : Cut
  pub start : ℕ
  pub zeros : ℕ
  pub held : List ℕ

-- the number of residuals taken
abbrev pub taken_count : WriterState → ℕ
taken_count v = (v.start + v.zeros) * v.cut.size + length v.held

-- the data set of the `left` blocks that are left in a segment, if they are zero blocks
abbrev pub rest_of : ℕ → CodedDataSet
rest_of left = if nat_le 5 left then RestOfSegment else Run left

-- the data sets of a block that isn't a zero block, after `zeros` zero blocks
abbrev pub run_and_block : CodeSet → ℕ → List ℕ → List CodedDataSet
run_and_block s zeros b = if zeros == 0 then Block (chosen_option s b) b ∷ [] else Run zeros ∷ Block (chosen_option s b) b ∷ []

-- the data sets that are written when a block is complete, after `zeros` zero blocks that are held
abbrev pub data_sets_after : CodeSet → ℕ → ℕ → List ℕ → List CodedDataSet
data_sets_after s left zeros b =
    if is_zero b then (if zeros + 1 == left then rest_of left ∷ [] else [])
    else run_and_block s zeros b

-- the number of zero blocks that are held after it
abbrev pub zeros_after : ℕ → ℕ → List ℕ → ℕ
zeros_after left zeros b = if is_zero b then (if zeros + 1 == left then 0 else zeros + 1) else 0

-- the state after a block was completed
abbrev pub packed : WriterState → List ℕ → WriterState
packed v b =
    let zeros = zeros_after (left_at v.cut v.start) v.zeros b in
    record v { start = v.start + (v.zeros + 1 - zeros); zeros = zeros; held = [] }

-- the state after the last residual: a block begun was filled up with zeros and completed
abbrev pub ended : WriterState → WriterState
ended v = if length v.held == 0 then v else packed v (filled v.cut.size v.held)

-- the bits that are written when a block is complete
abbrev pub data_sets_packed : WriterState → List ℕ → List Bool
data_sets_packed v b = spelling v.cut.set (data_sets_after v.cut.set (left_at v.cut v.start) v.zeros b)

-- the writer has taken these residuals: whole blocks, and the values held. The bits appended, and those that the zero blocks held and any blocks to come
-- are written as, are the chosen body
pub record HasTaken (v : WriterState) (taken : List ℕ) (bits : List Bool) : Type 0 where
  pub blocks : List (List ℕ)
  pub whole : AreBlocks v.cut.set v.cut.size blocks
  pub numbers : taken ≡ values_of blocks ++ v.held
  pub position : length blocks ≡ v.start + v.zeros
  pub inside : 1 ≤ v.zeros → v.zeros < left_at v.cut v.start
  pub goes_on : (future : List (List ℕ)) → length blocks + length future ≡ v.cut.count
      → spelling v.cut.set (chosen_from v.cut v.cut.count 0 (blocks ++ future))
      ≡ bits ++ spelling v.cut.set (chosen_from v.cut v.cut.count v.start (replicate v.zeros (replicate v.cut.size 0) ++ future))

-- whatever was taken before: some bits were appended, and one more residual is taken
abbrev pub PutsResidual : ℕ → WriterState → List Bool → WriterState → List Bool → Type 0
PutsResidual number old written new written_now =
    (taken : List ℕ) (bits : List Bool) → HasTaken old taken bits
    → (more : List Bool) × (written_now ≡ written ++ more) × HasTaken new (taken ++ number ∷ []) (bits ++ more)

-- whatever was taken before: some bits were appended, and the residuals of the list are taken
abbrev pub PutsAll : List ℕ → WriterState → List Bool → WriterState → List Bool → Type 0
PutsAll list old written new written_now =
    (taken : List ℕ) (bits : List Bool) → HasTaken old taken bits
    → (more : List Bool) × (written_now ≡ written ++ more) × HasTaken new (taken ++ list) (bits ++ more)

-- the next residual completes a block
abbrev pub EndsBlock : WriterState → Type 0
EndsBlock v = (taken_count v + 1) % v.cut.size ≡ 0

-- the residuals that were taken end inside a block
abbrev pub EndsInside : WriterState → Type 0
EndsInside v = 0 < taken_count v % v.cut.size

-- if all residuals were taken, the bits appended before and now are the chosen body
abbrev pub EndsBody : WriterState → List Bool → List Bool → Type 0
EndsBody old written written_now =
    (taken : List ℕ) (bits : List Bool) → HasTaken old taken bits → block_count old.cut.size (length taken) ≡ old.cut.count
    → (more : List Bool) × (written_now ≡ written ++ more) × (bits ++ more ≡ chosen_block_body old.cut.set old.cut.size old.cut.reference taken)
