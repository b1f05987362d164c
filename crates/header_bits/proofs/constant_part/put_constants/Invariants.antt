use Rattle.std.proofs.Common.{drop}
use Rattle.header_bits.proofs.TableWriting.{IsWriting}
use Rattle.header_bits.proofs.constant_part.put_constants.Given as goal

abbrev pub invariant-loop-constant : goal.invariant-loop-constant
invariant-loop-constant l = IsWriting 4 l.constants (drop l.constant-index l.constants) l.initial.writer l.writer
