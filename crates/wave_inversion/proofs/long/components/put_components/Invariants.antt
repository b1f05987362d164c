use Rattle.std.proofs.Common.{◌≡◌, ◌+◌, ◌*◌, ◌<◌, ℕ, length}
use Rattle.lanes.specs.Lanes.{place}
use Rattle.wave_inversion.specs.Wave.{component_in, long_lower_of}
use Rattle.wave_inversion.proofs.long.components.put_components.Given as goal

abbrev pub invariant-loop-c : goal.invariant-loop-c
invariant-loop-c g l = record {
  long : length l.components ≡ 9;
  even : (c b : ℕ) → c < l.c → b < 8 → place l.components c (2 * b) ≡ component_in l.reduced l.previous l.directions (long_lower_of l.lower) l.own l.k (2 * c) b;
  odd : (c b : ℕ) → c < l.c → b < 8 → place l.components c (2 * b + 1) ≡ component_in l.reduced l.previous l.directions (long_lower_of l.lower) l.own l.k (2 * c + 1) b;
}
