use Rattle.std.proofs.Common.{◌<◌, length}
use Rattle.coder_tests.proofs.sample_coder.read.Given as goal

abbrev pub invariant-loop-t : goal.invariant-loop-t
invariant-loop-t g l = 0 < length l.stats.bands
