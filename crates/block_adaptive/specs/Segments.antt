-- Blocks, and the segments, in one of which each run of zero blocks stays (CCSDS 121.0-B, "Zero-block option").
use Rattle.std.specs.Prelude.{ℕ, zero, suc, ◌+◌, ◌-◌, ◌*◌, ◌/◌, ◌%◌, min, nat_le, if◌then◌else◌, List, [], ◌∷◌, ◌++◌, length, take, drop, replicate}

-- a block, filled up with zeros
abbrev pub filled : ℕ → List ℕ → List ℕ
filled size values = values ++ replicate (size - length values) 0

unfoldable pub first_blocks : ℕ → ℕ → List ℕ → List (List ℕ)
first_blocks size zero numbers = []
first_blocks size (suc n) numbers = filled size (take size numbers) ∷ first_blocks size n (drop size numbers)

-- the number of blocks of n residuals: ⌈n / J⌉
abbrev pub block_count : ℕ → ℕ → ℕ
block_count size n = (n + size - 1) / size

-- the residuals cut into blocks, the last of which is filled up with zeros
unfoldable pub blocks : ℕ → List ℕ → List (List ℕ)
blocks size numbers = first_blocks size (block_count size (length numbers)) numbers

-- the number of blocks from block i, included, to the end of its segment, among n blocks: a segment has up to 64 blocks of one reference interval of r blocks
unfoldable pub segment_rest : ℕ → ℕ → ℕ → ℕ
segment_rest reference n i = min (64 - i % reference % 64) (min (reference - i % reference) (n - i))

-- the sizes of the segments of n blocks, from block i on, at most `most` segments
unfoldable pub segments_from : ℕ → ℕ → ℕ → ℕ → List ℕ
segments_from reference n zero i = []
segments_from reference n (suc most) i =
    if nat_le n i then [] else segment_rest reference n i ∷ segments_from reference n most (i + segment_rest reference n i)

-- the sizes of the segments of the blocks of n residuals
unfoldable pub segments : ℕ → ℕ → ℕ → List ℕ
segments n size reference = segments_from reference (block_count size n) (block_count size n) 0

-- the number of segments of the blocks of n residuals: ⌈r / 64⌉ in each whole reference interval, and those of the rest
abbrev pub segment_count : ℕ → ℕ → ℕ → ℕ
segment_count n size reference =
    let count = block_count size n in
    count / reference * ((reference + 63) / 64) + (count % reference + 63) / 64
