use Rattle.std.proofs.Common.{map, drop}
use Rattle.header_bits.specs.TableParts.{signed_code}
use Rattle.header_bits.proofs.TableWriting.{IsWriting}
use Rattle.header_bits.proofs.weight_part.put_weights.Given as goal

abbrev pub invariant-loop-weight : goal.invariant-loop-weight
invariant-loop-weight l =
    IsWriting l.bits (map (signed_code l.bits) l.weights) (map (signed_code l.bits) (drop l.weight-index l.weights)) l.initial.writer l.writer
