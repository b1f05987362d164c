use Rattle.std.proofs.Common.{◌≡◌, ◌<◌, length}
use Rattle.refused_allocations.proofs.samples.body.Given as goal

abbrev pub invariant-loop-t : goal.invariant-loop-t
invariant-loop-t l = record {
  bands : 0 < length l.stats.bands;
  bits : l.stats.bits ≡ 12;
}
