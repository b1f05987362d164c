use Rattle.std.proofs.Common.{◌≡◌, ◌-◌, ◌*◌, ◌≤◌, ◌++◌, length}
use Rattle.header_bits.specs.Layout.{values}
use Rattle.header_bits.specs.TableParts.{number_fields}
use Rattle.header_bits.proofs.constant_part.read_constants.Given as goal

abbrev pub invariant-loop : goal.invariant-loop
invariant-loop l = record {
  read : l.constants.items ++ values (number_fields (l.count - l.counter) 4) l.reader.left ≡ values (number_fields l.count 4) l.initial.reader.left;
  whole : (l.count - l.counter) * 4 ≤ length l.reader.left;
}
