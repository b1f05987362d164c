use Rattle.std.proofs.Common.{◌≡◌, ◌*◌, ◌++◌, length, List, Bool, sym, ap, ◌∙◌, append_assoc, arith}
use Rattle.header_bits.specs.Bits.{bits_of}
use Rattle.header_bits.specs.TableParts.{fill_of, numbers_text}
use Rattle.header_bits.proofs.TableWriting.{coder_text, coder_length}
use Rattle.header_bits.proofs.constant_part.put.Goals as goal
use Rattle.header_bits.proofs.constant_part.put.Goals.{After-number_bits}

-- how many bits the constants take
size : (c : After-number_bits) → c.number_bits.result ≡ length c.in-Each.table * 4
size c = rw c.as_slice-constants.ensures at c.number_bits.ensures.value

pub put_constants-requires-clause-room : goal.put_constants-requires-clause-room
put_constants-requires-clause-room c = rw c.as_slice-constants.ensures (omega (arith, coder_length c.in-Sample.is c.in-Each.is))

pub put_fill-requires : goal.put_fill-requires
put_fill-requires c =
    let room = rw c.as_slice-constants.ensures at c.put_constants.ensures.room in
    rw (size (goal.at.put_fill-requires c).After-number_bits) (record { room = omega (arith, coder_length c.in-Sample.is c.in-Each.is, room) })

pub returns-in-Each-clause-bits : goal.returns-in-Each-clause-bits
returns-in-Each-clause-bits c =
    let numbers = rw c.as_slice-constants.ensures at c.put_constants.ensures.bits in
    let fill = rw (size (goal.at.returns-in-Each-clause-bits c).After-number_bits) at c.put_fill.ensures.bits in
    let zeros : List Bool = bits_of (fill_of (length c.in-Each.table * 4)) 0 in
    fill ∙ ap (λ (x : List Bool). x ++ zeros) numbers ∙ append_assoc c.args.writer.now.bits (numbers_text 4 c.in-Each.table) zeros
    ∙ ap (λ (x : List Bool). c.args.writer.now.bits ++ x) (sym (coder_text c.in-Sample.is c.in-Each.is))

pub returns-in-Each-clause-room : goal.returns-in-Each-clause-room
returns-in-Each-clause-room c =
    let numbers = rw c.as_slice-constants.ensures at c.put_constants.ensures.room in
    let fill = rw (size (goal.at.returns-in-Each-clause-room c).After-number_bits) at c.put_fill.ensures.room in
    omega (arith, numbers, fill, coder_length c.in-Sample.is c.in-Each.is)
