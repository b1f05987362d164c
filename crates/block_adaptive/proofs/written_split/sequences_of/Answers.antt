use Rattle.std.proofs.Common.{ℕ, ◌≡◌, ◌+◌, ◌^◌, ◌<◌, ◌≤◌, List, replicate, ap₂, ◌∙◌, arith}
use Rattle.header_bits.specs.Bits.{bits_of}
use Rattle.header_bits.proofs.Numbers.{bits_of-fundamental}
use Rattle.lanes.specs.Lanes.{number}
use Rattle.lanes.proofs.Plain.{splat}
use Rattle.block_adaptive.proofs.Emits.{one_below}
use Rattle.block_adaptive.proofs.written_split.sequences_of.Goals as goal

-- a sequence has a bit more than zeros
module _ (zeros lengths : List ℕ) (few : (j : ℕ) → j < 8 → number zeros j ≤ 13)
    (plus : (j : ℕ) → j < 8 → number zeros j + number (replicate 8 1) j < 2 ^ 16 → number lengths j ≡ number zeros j + number (replicate 8 1) j) where
  one_more : (j : ℕ) → j < 8 → number lengths j ≡ number zeros j + 1
  one_more j lt = rw (splat 8 j 1 lt) at (plus j lt (rw (splat 8 j 1 lt) (omega (arith, few j lt))))

pub returns-clause-short : goal.returns-clause-short
returns-clause-short c =
    let zeros = c.args.zeros in
    let length = one_more zeros c.short_sum-lengths.result c.requires c.short_sum-lengths.ensures in
    record { length = λ j lt. omega (arith, length j lt, c.requires j lt); below = λ j lt. rw (length j lt, splat 8 j 1 lt) (one_below (number zeros j)) }

pub returns-clause-text : goal.returns-clause-text
returns-clause-text c j lt =
    ap₂ bits_of (one_more c.args.zeros c.short_sum-lengths.result c.requires c.short_sum-lengths.ensures j lt) (splat 8 j 1 lt)
    ∙ bits_of-fundamental (number c.args.zeros j)
