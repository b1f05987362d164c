use Rattle.std.proofs.Common.{◌≡◌, ◌+◌, ◌*◌, ◌≤◌, drop}
use Rattle.header_bits.specs.Layout.{total}
use Rattle.header_bits.proofs.layout.total_bits.Given as goal

abbrev pub invariant-loop-slot : goal.invariant-loop-slot
invariant-loop-slot l = record { so_far : l.bits + total (drop l.slot-index l.slots) ≡ total l.slots; most : l.bits ≤ 16 * l.slot-index }
