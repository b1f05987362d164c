use Rattle.std.proofs.Common.{◌≡◌}
use Rattle.header_bits.proofs.SlotLoops.{HasRead}
use Rattle.header_bits.proofs.layout.read_values.Given as goal

abbrev pub invariant-loop-i : goal.invariant-loop-i
invariant-loop-i l = record { read : HasRead l.slots l.initial.reader.left l.i l.out l.reader.left; count : l.reader.count ≡ l.initial.reader.count }
