use Rattle.std.proofs.Common.{◌≡◌, ◌+◌, ◌≤◌, ◌++◌, drop}
use Rattle.header_bits.specs.Layout.{AreValues, spelled, total}
use Rattle.header_bits.proofs.layout.write_values.Given as goal

abbrev pub invariant-loop-i : goal.invariant-loop-i
invariant-loop-i l = record {
  fit : AreValues (drop l.i l.slots) (drop l.i l.values);
  written : l.writer.bits ++ spelled (drop l.i l.slots) (drop l.i l.values) ≡ l.initial.writer.bits ++ spelled l.slots l.values;
  room : l.initial.writer.room + total (drop l.i l.slots) ≤ l.writer.room + total l.slots;
  still : total l.slots ≤ l.initial.writer.room → l.writer.room ≤ l.initial.writer.room;
}
