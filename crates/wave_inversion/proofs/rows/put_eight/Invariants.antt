use Rattle.std.proofs.Common.{◌≡◌, ◌+◌, ◌<◌, ◌≤◌, ℕ, length}
use Rattle.lanes.specs.Lanes.{lane}
use Rattle.wave_inversion.proofs.rows.put_eight.Given as goal

abbrev pub invariant-loop-j : goal.invariant-loop-j
invariant-loop-j l = record {
  long : length l.line ≡ 64;
  numbers : (i : ℕ) → i < l.j → lane l.line (l.first + i) ≡ lane l.numbers i;
  others : (i : ℕ) → (l.first ≤ i → l.first + l.j ≤ i) → lane l.line i ≡ lane l.initial.line i;
}
