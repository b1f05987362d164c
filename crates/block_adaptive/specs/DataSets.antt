-- The coded data sets of a body, and the lawful bodies (CCSDS 121.0-B, "Coded data set").
use Rattle.std.specs.Prelude.{ℕ, ◌+◌, ◌-◌, ◌^◌, ◌<◌, ◌≤◌, ◌≡◌, ◌*◌, nat_le, Bool, List, [], ◌∷◌, ◌++◌, length, take, replicate, if◌then◌else◌}
use Rattle.std.specs.List.{flat_map, AllByRecursion}
use Rattle.header_bits.specs.Bits.{fundamental}
use Rattle.block_adaptive.specs.declared.options.CodeSet.{CodeSet}
use Rattle.block_adaptive.specs.declared.options.Choice.{Choice}
use Rattle.block_adaptive.specs.Options.{zero_identifier, option_text, IsOption}
use Rattle.block_adaptive.specs.Segments.{segment_rest, block_count}

-- a block under an option, a run of n zero blocks, or the run of all blocks that are left in the segment
pub data CodedDataSet : Type 0 where
  Block : Choice → List ℕ → CodedDataSet
  Run : ℕ → CodedDataSet
  RestOfSegment : CodedDataSet

-- the code of a run of n zero blocks: the fundamental sequence of n - 1 if n is at most 4, else that of n
unfoldable pub run_code : ℕ → List Bool
run_code n = if nat_le n 4 then fundamental (n - 1) else fundamental n

-- the code of the rest of the segment: the fundamental sequence of 4
unfoldable pub rest_code : List Bool
rest_code = fundamental 4

-- the bits of a run's data set: the identifier of zero blocks, and the run's code
abbrev pub run_text : CodeSet → List Bool → List Bool
run_text s code = zero_identifier s ++ code

-- the bits of a data set
unfoldable pub spelled : CodeSet → CodedDataSet → List Bool
spelled s (Block o values) = option_text s o values
spelled s (Run n) = run_text s (run_code n)
spelled s RestOfSegment = run_text s rest_code

-- a block of J values, each below 2^D, under an option of the set
pub record IsBlock (s : CodeSet) (size : ℕ) (o : Choice) (values : List ℕ) : Type 0 where
  pub option : IsOption s o
  pub whole : length values ≡ size
  pub range : AllByRecursion (λ v. v < 2 ^ s.bits) values

-- a lawful data set, if `left` blocks are left in the segment
abbrev pub IsCodedDataSet : CodeSet → ℕ → ℕ → CodedDataSet → Type 0
IsCodedDataSet s size left (Block o values) = IsBlock s size o values
IsCodedDataSet s size left (Run n) = (1 ≤ n) × (n ≤ left)
IsCodedDataSet s size left RestOfSegment = 1 ≤ left

-- the number of blocks that a data set stands for
abbrev pub blocks_in : ℕ → CodedDataSet → ℕ
blocks_in left (Block o values) = 1
blocks_in left (Run n) = n
blocks_in left RestOfSegment = left

-- the blocks that a data set stands for
abbrev pub blocks_of : ℕ → ℕ → CodedDataSet → List (List ℕ)
blocks_of size left (Block o values) = values ∷ []
blocks_of size left (Run n) = replicate n (replicate size 0)
blocks_of size left RestOfSegment = replicate left (replicate size 0)

-- how the residuals of a body are cut into blocks: the set of options, J, r, and the number of blocks
pub record Cut : Type 0 where
  pub set : CodeSet
  pub size : ℕ
  pub reference : ℕ
  pub count : ℕ

-- the number of values of all blocks
abbrev pub capacity : Cut → ℕ
capacity c = c.count * c.size

-- the number of blocks from block i to the end of its segment
abbrev pub left_at : Cut → ℕ → ℕ
left_at c i = segment_rest c.reference c.count i

-- lawful data sets, one after another, that stand for the blocks from i up to, but not including, j
unfoldable pub AreCodedDataSets : Cut → ℕ → List CodedDataSet → ℕ → Type 0
AreCodedDataSets c i [] j = i ≡ j
AreCodedDataSets c i (t ∷ data_sets) j = IsCodedDataSet c.set c.size (left_at c i) t × AreCodedDataSets c (i + blocks_in (left_at c i) t) data_sets j

-- the blocks that data sets stand for, the first from block i on
unfoldable pub blocks_told : Cut → ℕ → List CodedDataSet → List (List ℕ)
blocks_told c i [] = []
blocks_told c i (t ∷ data_sets) = blocks_of c.size (left_at c i) t ++ blocks_told c (i + blocks_in (left_at c i) t) data_sets

abbrev pub spelling : CodeSet → List CodedDataSet → List Bool
spelling s data_sets = flat_map (spelled s) data_sets

-- the values of blocks, one after another
abbrev pub values_of : List (List ℕ) → List ℕ
values_of blocks = flat_map (λ b. b) blocks

-- how n residuals are cut
abbrev pub cut_of : CodeSet → ℕ → ℕ → ℕ → Cut
cut_of s size reference n = record { set = s; size = size; reference = reference; count = block_count size n }

-- the bits are a body of the residuals: lawful data sets of all blocks, whose values begin with the residuals; the values after them only fill the last block
pub record IsBlockBody (s : CodeSet) (size reference : ℕ) (numbers : List ℕ) (bits : List Bool) : Type 0 where
  pub data_sets : List CodedDataSet
  pub lawful : AreCodedDataSets (cut_of s size reference (length numbers)) 0 data_sets (block_count size (length numbers))
  pub text : bits ≡ spelling s data_sets
  pub told : take (length numbers) (values_of (blocks_told (cut_of s size reference (length numbers)) 0 data_sets)) ≡ numbers
