-- Reading data sets from the front of the bits, with the first fault.
use Rattle.std.specs.Prelude.{ℕ, zero, suc, ◌+◌, ◌-◌, ◌*◌, ◌/◌, ◌^◌, ◌==◌, nat_le, nat_lt, max, Bool, List, [], ◌∷◌, Result, Ok, Err, Option}
use Rattle.std.specs.Prelude.{if◌then◌else◌}
use Rattle.cube_core.specs.declared.fault.Fault.{Fault}
use Rattle.cube_core.specs.declared.fault.Fault.TheVariants.{BadOption, RunPastSegment}
use Rattle.cube_core.specs.Greatest.{greatest}
use Rattle.cube_core.specs.Steps.{◌>>=◌, fault_of}
use Rattle.header_bits.specs.Bits.{Unread}
use Rattle.header_bits.specs.Reading.{Reading, number_at, zeros_at}
use Rattle.block_adaptive.specs.declared.options.CodeSet.{CodeSet}
use Rattle.block_adaptive.specs.declared.options.Choice.{Choice}
use Rattle.block_adaptive.specs.declared.options.Choice.TheVariants.{Uncoded, Second, Split}
use Rattle.block_adaptive.specs.Options.{width, greatest_value}
use Rattle.block_adaptive.specs.DataSets.{CodedDataSet, Block, Run, RestOfSegment, Cut, cut_of, left_at, blocks_in}

-- what refusals name: the number of bits of the file, and the block at which a data set begins
pub record Site : Type 0 where
  pub count : ℕ
  pub block : ℕ

-- the site of a reader at a block
abbrev pub site_of : Unread → ℕ → Site
site_of reader block = record { count = reader.count; block = block }

-- a fundamental sequence of at most `most` zeros
unfoldable pub fundamental_at : Site → ℕ → Reading ℕ
fundamental_at s most bits = do
  z ← zeros_at s.count (suc most) bits
  if nat_lt most z.0 then Err (BadOption s.block) else Ok (z.0, z.1)

-- n fundamental sequences
unfoldable pub quotients_at : Site → ℕ → ℕ → Reading (List ℕ)
quotients_at s most zero bits = Ok ([], bits)
quotients_at s most (suc n) bits = do
  q ← fundamental_at s most bits
  qs ← quotients_at s most n q.1
  Ok (q.0 ∷ qs.0, qs.1)

-- the value of a quotient and the k low bits after it
unfoldable pub low_at : Site → ℕ → ℕ → ℕ → Reading ℕ
low_at s k most q bits = do
  low ← number_at s.count k bits
  if nat_lt most (q * 2 ^ k + low.0) then Err (BadOption s.block) else Ok (q * 2 ^ k + low.0, low.1)

-- the values of quotients
unfoldable pub lows_at : Site → ℕ → ℕ → List ℕ → Reading (List ℕ)
lows_at s k most [] bits = Ok ([], bits)
lows_at s k most (q ∷ qs) bits = do
  v ← low_at s k most q bits
  vs ← lows_at s k most qs v.1
  Ok (v.0 ∷ vs.0, vs.1)

-- n values under split-sample
unfoldable pub split_at : Site → ℕ → ℕ → ℕ → Reading (List ℕ)
split_at s k most n bits = do
  qs ← quotients_at s (most / 2 ^ k) n bits
  lows_at s k most qs.0 qs.1

-- n values of `depth` bits each
unfoldable pub words_at : ℕ → ℕ → ℕ → Reading (List ℕ)
words_at count depth zero bits = Ok ([], bits)
words_at count depth (suc n) bits = do
  v ← number_at count depth bits
  vs ← words_at count depth n v.1
  Ok (v.0 ∷ vs.0, vs.1)

-- the sum of the pair whose number is m, if no value is above `most`
unfoldable pub pair_sum : ℕ → ℕ → ℕ
pair_sum most m = greatest (λ sum. nat_le (sum * (sum + 1) / 2) m) (2 * most)

-- the pair whose number is m; a value above `most` is refused
unfoldable pub pair_of : Site → ℕ → ℕ → Reading (ℕ × ℕ)
pair_of s most m rest =
    let sum = pair_sum most m in
    let b = m - sum * (sum + 1) / 2 in
    if nat_lt most b then Err (BadOption s.block) else if nat_lt most (sum - b) then Err (BadOption s.block) else Ok ((sum - b, b), rest)

-- n pairs, each by the fundamental sequence of its number
unfoldable pub pairs_at : Site → ℕ → ℕ → Reading (List ℕ)
pairs_at s most zero bits = Ok ([], bits)
pairs_at s most (suc n) bits = do
  m ← fundamental_at s (2 * most * (most + 1)) bits
  p ← pair_of s most m.0 m.1
  vs ← pairs_at s most n p.1
  Ok (p.0.0 ∷ p.0.1 ∷ vs.0, vs.1)

-- a run code, if `left` blocks are left in the segment
unfoldable pub run_at : Site → ℕ → Reading CodedDataSet
run_at s left bits = do
  z ← zeros_at s.count (suc (max 4 left)) bits
  if nat_lt (max 4 left) z.0 then Err (RunPastSegment s.block)
      else if z.0 == 4 then Ok (RestOfSegment, z.1)
      else (let n = if nat_le z.0 3 then z.0 + 1 else z.0 in if nat_lt left n then Err (RunPastSegment s.block) else Ok (Run n, z.1))

abbrev pub block_read : Choice → Result (List ℕ × List Bool) Fault → Result (CodedDataSet × List Bool) Fault
block_read o read = read >>= λ vs. Ok (Block o vs.0, vs.1)

-- one data set
unfoldable pub data_set_at : Site → CodeSet → ℕ → ℕ → Reading CodedDataSet
data_set_at s set size left bits = do
  n ← number_at s.count (width set) bits
  if n.0 == 0 then (number_at s.count 1 n.1 >>= λ more. if more.0 == 0 then run_at s left more.1 else block_read Second (pairs_at s (greatest_value set)
      (size / 2) more.1))
      else if n.0 == 2 ^ width set - 1 then block_read Uncoded (words_at s.count set.bits size n.1)
      else block_read (Split (n.0 - 1)) (split_at s (n.0 - 1) (greatest_value set) size n.1)

-- the data sets from block i to the last block, at most n
unfoldable pub data_sets_at : ℕ → Cut → ℕ → ℕ → Reading (List CodedDataSet)
data_sets_at count c zero i bits = Ok ([], bits)
data_sets_at count c (suc n) i bits =
    if nat_le c.count i then Ok ([], bits)
    else (data_set_at (record { count = count; block = i }) c.set c.size (left_at c i) bits >>= λ t.
    data_sets_at count c n (i + blocks_in (left_at c i) t.0) t.1 >>= λ ts. Ok (t.0 ∷ ts.0, ts.1))

-- the data sets of a body of n residuals
unfoldable pub block_body_at : ℕ → CodeSet → ℕ → ℕ → ℕ → Reading (List CodedDataSet)
block_body_at count s size reference n bits =
    data_sets_at count (cut_of s size reference n) (cut_of s size reference n).count 0 bits

-- the first fault of a body of n residuals: that of the first data set that isn't lawful
abbrev pub block_body_fault : ℕ → CodeSet → ℕ → ℕ → ℕ → List Bool → Option Fault
block_body_fault count s size reference n bits = fault_of (block_body_at count s size reference n bits)
