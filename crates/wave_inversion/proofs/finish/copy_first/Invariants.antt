use Rattle.std.proofs.Common.{◌≡◌, ◌<◌, ◌≤◌, ℕ, pos, length, slice_index_or}
use Rattle.wave_inversion.proofs.finish.copy_first.Given as goal

abbrev pub invariant-loop-k : goal.invariant-loop-k
invariant-loop-k g l = record {
  first : (i : ℕ) → i < l.k → slice_index_or l.own i (pos 0) ≡ slice_index_or l.weights i (pos 0);
  rest : (i : ℕ) → l.k ≤ i → slice_index_or l.own i (pos 0) ≡ slice_index_or l.initial.own i (pos 0);
  long : length l.own ≡ 18;
}
