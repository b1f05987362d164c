use Rattle.std.proofs.Common.{◌≡◌, ◌+◌, ◌*◌, ◌<◌, ℕ, [], length, slice_index_or}
use Rattle.lanes.specs.Lanes.{lane, place}
use Rattle.band_lanes.proofs.pairs.weave.Given as goal

abbrev pub invariant-loop-i : goal.invariant-loop-i
invariant-loop-i l = record {
  even : (k b : ℕ) → k < l.i → b < 8 → lane (slice_index_or l.out k []) (2 * b) ≡ place l.even k b;
  odd : (k b : ℕ) → k < l.i → b < 8 → lane (slice_index_or l.out k []) (2 * b + 1) ≡ place l.odd k b;
  long : length l.out ≡ 64;
}
