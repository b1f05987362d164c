use Rattle.std.proofs.Common.{◌≡◌, ◌+◌, ◌<◌, ℕ, length}
use Rattle.lanes.specs.Lanes.{lane, place}
use Rattle.wave_inversion.proofs.long.begin.diagonal.Given as goal

abbrev pub invariant-loop-b : goal.invariant-loop-b
invariant-loop-b l = record {
  long : length l.diagonal ≡ 8;
  read : (b : ℕ) → b < l.b → lane l.diagonal b ≡ place l.numbers (7 + b) b;
}
