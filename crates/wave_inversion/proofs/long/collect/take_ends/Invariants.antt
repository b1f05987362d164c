use Rattle.std.proofs.Common.{◌≡◌, ◌*◌, ◌<◌, ℕ, [], length, take, slice_index_or}
use Rattle.band_lanes.specs.Rows.{weights_of}
use Rattle.wave_inversion.specs.Wave.{kept_long_rows}
use Rattle.wave_inversion.specs.WaveTiles.{rows_at_end}
use Rattle.wave_inversion.proofs.long.collect.take_ends.Given as goal

abbrev pub invariant-loop-b : goal.invariant-loop-b
invariant-loop-b g l = record {
  long : length l.taken ≡ 8;
  written : (b : ℕ) → b < l.b → take (2 * g.row.Q) (slice_index_or l.taken b []) ≡ weights_of g.row.Q b (rows_at_end l.lanes (kept_long_rows l.ends) l.weights b);
}
