use Rattle.std.proofs.Common.{◌≡◌, ◌-◌, ◌*◌, ◌≤◌, ◌++◌, length, map}
use Rattle.header_bits.specs.Layout.{values}
use Rattle.header_bits.specs.TableParts.{number_fields, signed_of}
use Rattle.header_bits.proofs.weight_part.read_weights.Given as goal

abbrev pub invariant-loop : goal.invariant-loop
invariant-loop l = record {
  read : l.weights.items ++ map (signed_of l.bits) (values (number_fields (l.count - l.counter) l.bits) l.reader.left)
      ≡ map (signed_of l.bits) (values (number_fields l.count l.bits) l.initial.reader.left);
  whole : (l.count - l.counter) * l.bits ≤ length l.reader.left;
}
