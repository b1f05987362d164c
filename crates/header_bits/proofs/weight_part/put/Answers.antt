use Rattle.std.proofs.Common.{◌≡◌, ◌*◌, ◌++◌, length, map, List, Bool, sym, ap, ◌∙◌, append_assoc, arith}
use Rattle.header_bits.specs.Bits.{bits_of}
use Rattle.header_bits.specs.TableParts.{fill_of, numbers_text, signed_code}
use Rattle.header_bits.proofs.TableWriting.{weights_lawful, start_text, start_length}
use Rattle.header_bits.proofs.weight_part.put.Goals as goal
use Rattle.header_bits.proofs.weight_part.put.Goals.{After-number_bits}

-- how many bits the weights take
size : (c : After-number_bits) → c.number_bits.result ≡ length c.in-Table.values * c.in-Table.q
size c = rw c.as_slice-weights.ensures at c.number_bits.ensures.value

pub put_weights-requires-clause-room : goal.put_weights-requires-clause-room
put_weights-requires-clause-room c = rw c.as_slice-weights.ensures (omega (arith, start_length _ _ _ c.in-Table.is))

pub number_bits-requires-clause-count : goal.number_bits-requires-clause-count
number_bits-requires-clause-count c = rw c.as_slice-weights.ensures (weights_lawful _ _ _ c.requires.lawful c.in-Table.is).count

pub put_fill-requires : goal.put_fill-requires
put_fill-requires c =
    let room = rw c.as_slice-weights.ensures at c.put_weights.ensures.room in
    rw (size (goal.at.put_fill-requires c).After-number_bits) (record { room = omega (arith, c.requires.room, start_length _ _ _ c.in-Table.is, room) })

pub returns-in-Table-clause-bits : goal.returns-in-Table-clause-bits
returns-in-Table-clause-bits c =
    let numbers = rw c.as_slice-weights.ensures at c.put_weights.ensures.bits in
    let fill = rw (size (goal.at.returns-in-Table-clause-bits c).After-number_bits) at c.put_fill.ensures.bits in
    let zeros : List Bool = bits_of (fill_of (length c.in-Table.values * c.in-Table.q)) 0 in
    fill ∙ ap (λ (x : List Bool). x ++ zeros) numbers ∙ append_assoc _ (numbers_text c.in-Table.q (map (signed_code c.in-Table.q) c.in-Table.values)) zeros
    ∙ ap (λ (x : List Bool). c.args.writer.now.bits ++ x) (sym (start_text _ _ _ c.in-Table.is))

pub returns-in-Table-clause-room : goal.returns-in-Table-clause-room
returns-in-Table-clause-room c =
    let numbers = rw c.as_slice-weights.ensures at c.put_weights.ensures.room in
    omega (arith, numbers, rw (size (goal.at.returns-in-Table-clause-room c).After-number_bits) at c.put_fill.ensures.room, start_length _ _ _ c.in-Table.is)
