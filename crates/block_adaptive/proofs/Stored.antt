-- The parts of a writer, after a whole block.
use Rattle.std.proofs.Common.{ℕ, ◌+◌, ◌-◌, ◌<◌, ◌≤◌, ◌*◌, ◌^◌, List, [], length, arith, lit<}
use Rattle.std.proofs.lemmas.Nat.{mul-le}
use Rattle.std.proofs.Math.Nat.{pow-le-pow_right}
use Rattle.block_adaptive.specs.Segments.{segment_rest}
use Rattle.block_adaptive.specs.DataSets.{Cut, left_at}
use Rattle.block_adaptive.specs.Holding.{AreStored}
use Rattle.block_adaptive.specs.Taken.{zeros_after}
use Rattle.block_adaptive.proofs.Lawful.{rest_least}
use Rattle.block_adaptive.proofs.Handed.{size_least, size_most}
use Rattle.block_adaptive.proofs.Packing.{after_in_range, after_start}
use Rattle.block_adaptive.proofs.ListSums.{sum_most}

-- the blocks of zeros that are held are fewer than the segment has left
pub held_inside : (c : Cut) (i counted total : ℕ) (held : List ℕ) → AreStored c i counted total held → i + counted < c.count → counted < left_at c i
held_inside c i counted total held h more = grind (arith, rest_least)

pub held_few : (c : Cut) (i counted total : ℕ) (held : List ℕ) → AreStored c i counted total held → i + counted < c.count → counted < 64
unfolding segment_rest
held_few c i counted total held h more = (let inside = held_inside c i counted total held h more in omega arith)

pub stored_after : (c : Cut) (i counted total : ℕ) (held block : List ℕ) → AreStored c i counted total held → i + counted < c.count
    → AreStored c (i + (counted + 1 - zeros_after (left_at c i) counted block)) (zeros_after (left_at c i) counted block) 0 []
stored_after c i counted total held block h more = grind (arith, after_in_range, after_start, held_inside, rest_least, size_least)

-- what the values held add up to
pub total_few : (c : Cut) (i counted total : ℕ) (held : List ℕ) → AreStored c i counted total held → total ≤ 64 * 65536
total_few c i counted total held h =
    let wide : 2 ^ c.set.bits ≤ 2 ^ 16 = pow-le-pow_right {n = 2} (lit< tt) {i = c.set.bits} {j = 16} h.cut.bits.1 in
    let times : length held * 2 ^ c.set.bits ≤ 64 * 65536 = mul-le (length held) (2 ^ c.set.bits) 64 65536 (omega (arith, h.few, size_most _ h.cut.size))
    wide in
    omega (arith, h.added, sum_most _ _ h.range, times)
