use Rattle.std.proofs.Common.{◌≡◌, ◌-◌, ◌*◌, ◌≤◌, length, drop}
use Rattle.header_bits.specs.Layout.{values}
use Rattle.header_bits.specs.TableParts.{number_fields, some_above}
use Rattle.header_bits.proofs.constant_part.pass_constants.Given as goal

abbrev pub invariant-loop : goal.invariant-loop
invariant-loop l = record {
  above : some_above l.most (values (number_fields (l.count - l.counter) 4) l.reader.left)
      ≡ some_above l.most (values (number_fields l.count 4) l.initial.reader.left);
  rest : drop ((l.count - l.counter) * 4) l.reader.left ≡ drop (l.count * 4) l.initial.reader.left;
  whole : (l.count - l.counter) * 4 ≤ length l.reader.left;
}
