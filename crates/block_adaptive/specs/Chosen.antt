-- The body that is written (CCSDS 121.0-B, "Code option selection").
use Rattle.std.specs.Prelude.{ℕ, zero, suc, ◌+◌, ◌<◌, ◌≤◌, ◌≡◌, ◌⊎◌, ◌==◌, nat_le, nat_lt, ◌&&◌, Bool, true, List, [], ◌∷◌, length, drop, if◌then◌else◌}
use Rattle.block_adaptive.specs.declared.options.CodeSet.{CodeSet}
use Rattle.block_adaptive.specs.declared.options.Choice.{Choice}
use Rattle.block_adaptive.specs.declared.options.Choice.TheVariants.{Uncoded, Second, Split}
use Rattle.block_adaptive.specs.Options.{splits, cost, IsOption}
use Rattle.block_adaptive.specs.Segments.{blocks}
use Rattle.block_adaptive.specs.DataSets.{CodedDataSet, Block, Run, RestOfSegment, Cut, cut_of, left_at, blocks_in, spelling}

-- option a, unless option b is shorter
abbrev pub shorter : CodeSet → List ℕ → Choice → Choice → Choice
shorter s values a b = if nat_lt (cost s b values) (cost s a values) then b else a

-- the shortest of uncoded, the second extension and split-sample with k < n; of equally short ones the first in this order
unfoldable pub shortest : CodeSet → List ℕ → ℕ → Choice
shortest s values zero = shorter s values Uncoded Second
shortest s values (suc k) = shorter s values (shortest s values k) (Split k)

-- the option of a block: the shortest of the set
unfoldable pub chosen_option : CodeSet → List ℕ → Choice
chosen_option s values = shortest s values (splits s)

-- the rank of an option among equally short ones
abbrev pub turn : Choice → ℕ
turn Uncoded = 0
turn Second = 1
turn (Split k) = k + 2

-- each other option is longer, or equally short and not of a lower rank
abbrev pub IsChosen : CodeSet → List ℕ → Choice → Type 0
IsChosen s values o = IsOption s o × ((p : Choice) → IsOption s p → (cost s o values < cost s p values) ⊎ ((cost s o values ≡ cost s p values)
    × (turn o ≤ turn p)))

abbrev pub is_zero : List ℕ → Bool
is_zero [] = true
is_zero (v ∷ values) = v == 0 && is_zero values

-- the number of zero blocks before the first other block, at most n
abbrev pub zero_blocks : ℕ → List (List ℕ) → ℕ
zero_blocks zero bs = 0
zero_blocks (suc n) [] = 0
zero_blocks (suc n) (b ∷ bs) = if is_zero b then suc (zero_blocks n bs) else 0

-- the data set for block b and those after it: all zero blocks at the front as one run, with the code for the rest of the segment if they are that rest and
-- at least 5
abbrev pub data_set_of : CodeSet → ℕ → List ℕ → List (List ℕ) → CodedDataSet
data_set_of s left b bs =
    let n = zero_blocks left (b ∷ bs) in
    if n == 0 then Block (chosen_option s b) b
    else if n == left && nat_le 5 n then RestOfSegment
    else Run n

-- the data sets of the blocks from block i on, at most n
unfoldable pub chosen_from : Cut → ℕ → ℕ → List (List ℕ) → List CodedDataSet
chosen_from c zero i bs = []
chosen_from c (suc n) i [] = []
chosen_from c (suc n) i (b ∷ bs) =
    let t = data_set_of c.set (left_at c i) b bs in
    t ∷ chosen_from c n (i + blocks_in (left_at c i) t) (drop (blocks_in (left_at c i) t) (b ∷ bs))

unfoldable pub chosen_data_sets : CodeSet → ℕ → ℕ → List ℕ → List CodedDataSet
chosen_data_sets s size reference numbers =
    chosen_from (cut_of s size reference (length numbers)) (length (blocks size numbers)) 0 (blocks size numbers)

-- the body of residuals
unfoldable pub chosen_block_body : CodeSet → ℕ → ℕ → List ℕ → List Bool
chosen_block_body s size reference numbers = spelling s (chosen_data_sets s size reference numbers)
