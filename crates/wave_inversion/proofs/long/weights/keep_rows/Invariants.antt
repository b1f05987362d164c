use Rattle.std.proofs.Common.{◌≡◌, ◌<◌, ℕ, [], length, slice_index_or}
use Rattle.wave_inversion.proofs.long.weights.keep_rows.Given as goal

abbrev pub invariant-loop-j : goal.invariant-loop-j
invariant-loop-j g l = record {
  same : (n : ℕ) → n < l.j → slice_index_or l.kept n [] ≡ slice_index_or l.rows n [];
  long : length l.kept ≡ 9;
}
