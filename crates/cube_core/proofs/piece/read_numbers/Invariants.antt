use Rattle.std.proofs.Common.{ℕ, ◌≡◌, ◌⊎◌, ◌*◌, ◌+◌, ◌<◌, ◌≤◌, ◌^◌, slice_index}
use Rattle.cube_core.specs.Scale.{StandsFor}
use Rattle.cube_core.proofs.piece.read_numbers.Given as goal

abbrev pub invariant-loop-x : goal.invariant-loop-x
invariant-loop-x g l = record {
  taken : (x : ℕ) → x < l.x → StandsFor l.scale.kind l.layout l.bytes (l.piece.first + x * l.piece.step) (slice_index l.offsets (l.piece.at + x));
  others : (j : ℕ) → (j < l.piece.at) ⊎ (l.piece.at + l.x ≤ j) → slice_index l.offsets j ≡ slice_index l.initial.offsets j;
  greatest : (x : ℕ) → x < l.x → slice_index l.offsets (l.piece.at + x) ≤ l.greatest;
  reached : ((x : ℕ) → x < l.x → slice_index l.offsets (l.piece.at + x) < 2 ^ l.scale.kind.bits) → l.greatest < 2 ^ l.scale.kind.bits;
}
