use Rattle.std.proofs.Common.{◌≡◌}
use Rattle.speed.specs.Formats.{synthetic_bytes}
use Rattle.speed.specs.Numbers.{state_after}
use Rattle.speed.proofs.cube.raw_bytes.Given as goal

abbrev pub invariant-loop-sample : goal.invariant-loop-sample
invariant-loop-sample l = record {
  state : l.generator ≡ state_after l._sample;
  value : l.bytes.items ≡ synthetic_bytes l.format l._sample;
}
