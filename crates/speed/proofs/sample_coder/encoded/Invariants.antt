use Rattle.std.proofs.Common.{◌≡◌, ◌<◌, length, take}
use Rattle.speed.proofs.Coded.{AreCoded}
use Rattle.speed.proofs.sample_coder.encoded.Given as goal

abbrev pub invariant-loop-t : goal.invariant-loop-t
invariant-loop-t l = record {
  bands : 0 < length l.stats.bands;
  bits : l.stats.bits ≡ 12;
  coded : AreCoded l.params l.stats (take l.t l.numbers) l.writer.bits;
}
