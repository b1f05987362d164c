use Rattle.std.proofs.Common.{◌≡◌, ◌+◌, ◌*◌, ◌<◌, ◌≤◌, ℕ, pos, slice_index}
use Rattle.lanes.specs.Lanes.{lane}
use Rattle.wave_inversion.specs.WaveRows.{without_sign}
use Rattle.wave_inversion.proofs.rows.put_eights.Given as goal

abbrev pub invariant-loop-k : goal.invariant-loop-k
invariant-loop-k l = record {
  numbers : (i : ℕ) → i < 8 * l.k → i < l.count → without_sign (lane l.line (l.first + i)) ≡ pos (slice_index l.row (l.from + i));
  others : (i : ℕ) → (l.first ≤ i → l.first + l.count ≤ i) → lane l.line i ≡ lane l.initial.line i;
}
