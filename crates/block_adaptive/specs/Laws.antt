-- What holds of the definitions alone.
use Rattle.std.specs.Prelude.{ℕ, ◌≡◌, ◌+◌, ◌*◌, ◌^◌, ◌<◌, ◌≤◌, Bool, List, ◌++◌, length, sum, Ok, Err}
use Rattle.std.specs.List.{AllByRecursion}
use Rattle.cube_core.specs.declared.fault.Fault.{Fault}
use Rattle.cube_core.specs.declared.fault.Fault.TheVariants.{Truncated}
use Rattle.block_adaptive.specs.declared.options.CodeSet.{CodeSet}
use Rattle.block_adaptive.specs.Options.{pair_number}
use Rattle.block_adaptive.specs.Segments.{block_count, segments, segment_count}
use Rattle.block_adaptive.specs.DataSets.{CodedDataSet, spelled, spelling, IsCodedDataSet, Cut, cut_of, AreCodedDataSets, blocks_told, IsBlockBody}
use Rattle.block_adaptive.specs.Reading.{Site, data_set_at, block_body_at}
use Rattle.block_adaptive.specs.Chosen.{IsChosen, chosen_option, chosen_from, chosen_block_body}

-- two lawful data sets are equal if one is a prefix of the other; J is even
abbrev pub OneText : Type 0
OneText =
    (s : CodeSet) (half left : ℕ) (t u : CodedDataSet) (x y : List Bool) → IsCodedDataSet s (2 * half) left t → IsCodedDataSet s (2 * half) left u
    → spelled s t ++ x ≡ spelled s u ++ y → (t ≡ u) × (x ≡ y)

-- no body of residuals is a prefix of a body of as many other residuals
abbrev pub OneBody : Type 0
OneBody =
    (s : CodeSet) (half reference : ℕ) (ms ns : List ℕ) (a b x y : List Bool) → 1 ≤ half → length ms ≡ length ns
    → IsBlockBody s (2 * half) reference ms a → IsBlockBody s (2 * half) reference ns b → a ++ x ≡ b ++ y → (ms ≡ ns) × (x ≡ y)

-- the chosen option is the shortest, and of equally short ones the first
abbrev pub OptionIsLeast : Type 0
OptionIsLeast = (s : CodeSet) (values : List ℕ) → IsChosen s values (chosen_option s values)

-- blocks of J values, each below 2^D
abbrev pub AreBlocks : CodeSet → ℕ → List (List ℕ) → Type 0
AreBlocks s size bs = AllByRecursion (λ b. (length b ≡ size) × AllByRecursion (λ v. v < 2 ^ s.bits) b) bs

-- the chosen data sets of blocks are lawful, and stand for these blocks
abbrev pub ChosenIsLawful : Type 0
ChosenIsLawful =
    (c : Cut) (bs : List (List ℕ)) → length bs ≡ c.count → 1 ≤ c.reference → AreBlocks c.set c.size bs
    → AreCodedDataSets c 0 (chosen_from c c.count 0 bs) c.count × (blocks_told c 0 (chosen_from c c.count 0 bs) ≡ bs)

-- the chosen body of residuals is a body of them
abbrev pub ChosenIsBody : Type 0
ChosenIsBody =
    (s : CodeSet) (size reference : ℕ) (numbers : List ℕ) → 1 ≤ size → 1 ≤ reference → AllByRecursion (λ v. v < 2 ^ s.bits) numbers
    → IsBlockBody s size reference numbers (chosen_block_body s size reference numbers)

-- what is read as a data set is lawful, and the bits begin with it
abbrev pub DataSetIsTaken : Type 0
DataSetIsTaken =
    (site : Site) (s : CodeSet) (half left : ℕ) (t : CodedDataSet) (bits rest : List Bool) → 1 ≤ left → data_set_at site s (2 * half) left bits ≡ Ok (t, rest)
    → (bits ≡ spelled s t ++ rest) × IsCodedDataSet s (2 * half) left t

-- the data sets of a body of n residuals are read exactly if the bits begin with lawful data sets for all blocks
abbrev pub BodyIsRead : Type 0
BodyIsRead =
    (count : ℕ) (s : CodeSet) (half reference n : ℕ) (data_sets : List CodedDataSet) (bits rest : List Bool) → 1 ≤ reference
    → (AreCodedDataSets (cut_of s (2 * half) reference n) 0 data_sets (block_count (2 * half) n) → bits ≡ spelling s data_sets ++ rest
    → block_body_at count s (2 * half) reference n bits ≡ Ok (data_sets, rest))
    × (block_body_at count s (2 * half) reference n bits ≡ Ok (data_sets, rest)
    → AreCodedDataSets (cut_of s (2 * half) reference n) 0 data_sets (block_count (2 * half) n) × (bits ≡ spelling s data_sets ++ rest))

-- the number of a pair of values up to m is at most 2·m·(m + 1)
abbrev pub PairBound : Type 0
PairBound = (most a b : ℕ) → a ≤ most → b ≤ most → pair_number a b ≤ 2 * most * (most + 1)

-- `segment_count` is the number of segments of the blocks of n residuals, and the segments have all blocks
abbrev pub SegmentsAreCounted : Type 0
SegmentsAreCounted =
    (n size reference : ℕ) → 1 ≤ reference
    → (length (segments n size reference) ≡ segment_count n size reference) × (sum (segments n size reference) ≡ block_count size n)

-- a body has at least three bits for each segment
abbrev pub NoShorterBody : Type 0
NoShorterBody =
    (s : CodeSet) (size reference : ℕ) (numbers : List ℕ) (bits : List Bool) → 1 ≤ s.bits → 2 ≤ size → 1 ≤ reference
    → IsBlockBody s size reference numbers bits → 3 * segment_count (length numbers) size reference ≤ length bits

-- bits from which a data set is refused don't begin with a lawful one; unless the fault is `Truncated`, they don't do so whatever bits follow
abbrev pub FaultIsNoDataSet : Type 0
FaultIsNoDataSet =
    (site : Site) (s : CodeSet) (half left : ℕ) (e : Fault) (bits : List Bool) → data_set_at site s (2 * half) left bits ≡ Err e
    → (e ≡ Truncated site.count → (t : CodedDataSet) (rest : List Bool) → IsCodedDataSet s (2 * half) left t → bits ≡ spelled s t ++ rest → ⊥)
    × ((e ≡ Truncated site.count → ⊥) → (more : List Bool) (t : CodedDataSet) (rest : List Bool) → IsCodedDataSet s (2 * half) left t
    → bits ++ more ≡ spelled s t ++ rest → ⊥)
