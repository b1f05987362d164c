use Rattle.std.proofs.Common.{◌<◌, ℕ, slice_index}
use Rattle.cube_core.proofs.Words.{HasBytes, sample_of}
use Rattle.cube_core.proofs.raw_write.can_be_written.Given as goal

abbrev pub invariant-loop-i : goal.invariant-loop-i
invariant-loop-i l = (i : ℕ) → i < l.i → HasBytes l.fn.kind l.fn.layout (sample_of l.fn.kind (slice_index l.offsets i))
