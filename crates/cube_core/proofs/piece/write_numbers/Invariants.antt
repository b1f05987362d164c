use Rattle.std.proofs.Common.{ℕ, ◌≡◌, ◌≢◌, ◌*◌, ◌+◌, ◌<◌, ◌^◌, slice_index}
use Rattle.cube_core.proofs.Words.{sample_of, HasBytes, bytes_at, SpellOffset}
use Rattle.cube_core.proofs.piece.write_numbers.Given as goal

abbrev pub invariant-loop-x : goal.invariant-loop-x
invariant-loop-x g l = record {
  given : (x : ℕ) → x < l.x
      → SpellOffset l.scale.kind l.layout (slice_index l.offsets (l.piece.at + x)) (bytes_at l.layout l.bytes (l.piece.first + x * l.piece.step));
  others : (i : ℕ) → ((x : ℕ) → x < l.x → i ≢ l.piece.first + x * l.piece.step) → bytes_at l.layout l.bytes i ≡ bytes_at l.layout l.initial.bytes i;
  greatest : l.greatest < 2 ^ (8 * g.row.BYTES) → (x : ℕ) → x < l.x
      → HasBytes l.scale.kind l.layout (sample_of l.scale.kind (slice_index l.offsets (l.piece.at + x)));
  reached : ((x : ℕ) → x < l.x → HasBytes l.scale.kind l.layout (sample_of l.scale.kind (slice_index l.offsets (l.piece.at + x))))
      → l.greatest < 2 ^ (8 * g.row.BYTES);
}
