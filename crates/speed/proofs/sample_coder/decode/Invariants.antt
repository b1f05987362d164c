use Rattle.std.proofs.Common.{◌<◌, length}
use Rattle.speed.proofs.sample_coder.decode.Given as goal

abbrev pub invariant-loop-t : goal.invariant-loop-t
invariant-loop-t l = 0 < length l.stats.bands
