use Rattle.std.proofs.Common.{◌≡◌, ℕ, ◌<◌, pos, ◌≤ℤ◌, length, slice_index, slice_index_or}
use Rattle.predict_core.specs.Rooms.{offset_number}
use Rattle.group_prediction.proofs.mapping.map_places.Given as goal

abbrev pub invariant-loop-i : goal.invariant-loop-i
invariant-loop-i l = record {
  long : length l.out ≡ 64;
  bound : (k : ℕ) → k < l.i → pos (slice_index l.out k) ≤ℤ l.greatest;
  values : (k : ℕ) → k < l.i
      → slice_index l.out k ≡ offset_number l.greatest (slice_index_or l.parts k (pos 0)) (slice_index_or l.sums k (pos 0)) (slice_index l.offsets k);
}
