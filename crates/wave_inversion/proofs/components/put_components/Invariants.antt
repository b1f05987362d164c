use Rattle.std.proofs.Common.{◌≡◌, ◌+◌, ◌*◌, ◌<◌, ℕ, slice_index_or, length}
use Rattle.lanes.specs.Lanes.{lane}
use Rattle.band_lanes.specs.Rows.{row_at, no_pairs}
use Rattle.wave_inversion.specs.Wave.{component_in, lower_of}
use Rattle.wave_inversion.proofs.components.put_components.Given as goal

abbrev pub invariant-loop-c : goal.invariant-loop-c
invariant-loop-c g l = record {
  long : length l.pairs ≡ 9;
  even : (c b : ℕ) → c < l.c → b < 8 → lane (row_at (slice_index_or l.pairs c no_pairs) 0) (2 * b)
      ≡ component_in l.reduced l.previous l.directions (lower_of l.lower) l.own l.k (2 * c) b;
  odd : (c b : ℕ) → c < l.c → b < 8 → lane (row_at (slice_index_or l.pairs c no_pairs) 0) (2 * b + 1)
      ≡ component_in l.reduced l.previous l.directions (lower_of l.lower) l.own l.k (2 * c + 1) b;
}
