use Rattle.std.proofs.Common.{◌+◌, ◌≤◌, length, arith}
use Rattle.header_bits.specs.Header.{header_of, weight_bits}
use Rattle.header_bits.proofs.Held.{image_held, predictor_held, coder_held, image_total, predictor_total}
use Rattle.header_bits.proofs.Chosen.{chosen_is_spelt}
use Rattle.header_bits.proofs.HeaderTexts.{header_written, header_length, spelt_whole}
use Rattle.header_bits.proofs.header.put_header.Goals as goal
use Rattle.header_bits.proofs.header.put_header.Goals.{After-unwrap, After-unwrap-2, After-unwrap-3}

-- the image part leaves all but 96 bits of the room
after_image : (c : After-unwrap) → c.reserve.new.self.room ≤ c.write_values.new.writer.room + 96
after_image c = omega (arith, rw c.unwrap.ensures at c.write_values.ensures.room, image_total)

-- after the predictor part all but 136 bits of it are left
after_predictor : (c : After-unwrap-2) → c.reserve.new.self.room ≤ c.write_values-2.new.writer.room + 136
after_predictor c = omega (arith, after_image (goal.at.After-unwrap-2 c).After-unwrap, rw c.unwrap-2.ensures at c.write_values-2.ensures.room, predictor_total)

-- after the coder part all but 152 and the weight table's are left
after_coder : (c : After-unwrap-3) → c.reserve.new.self.room ≤ c.put_coder.new.writer.room + 152 + length (weight_bits c.args.params.now.start)
after_coder c = omega (arith, after_predictor (goal.at.After-unwrap-3 c).After-unwrap-2, rw c.unwrap-3.ensures at c.put_coder.ensures.room)

pub returns-in_err-reserve-clause-whole : goal.returns-in_err-reserve-clause-whole
returns-in_err-reserve-clause-whole c = spelt_whole c.args.params.now (header_of c.args.params.now) (chosen_is_spelt c.args.params.now c.requires)

pub write_values-requires-clause-values : goal.write_values-requires-clause-values
write_values-requires-clause-values c = rw (c.numbers-image.ensures, c.of.ensures) (image_held c.args.params.now c.requires)

pub unwrap-requires : goal.unwrap-requires
unwrap-requires c = c.write_values.ensures.within (omega (arith, c.in_ok-reserve.ensures.room, header_length c.args.params.now c.requires, image_total))

pub write_values-requires-2-clause-values : goal.write_values-requires-2-clause-values
write_values-requires-2-clause-values c = rw (c.numbers-predictor.ensures, c.of-2.ensures) (predictor_held c.args.params.now c.requires)

pub unwrap-requires-2 : goal.unwrap-requires-2
unwrap-requires-2 c = c.write_values-2.ensures.within (omega
    (arith, c.in_ok-reserve.ensures.room, header_length c.args.params.now c.requires, after_image (goal.at.unwrap-requires-2 c).After-unwrap, predictor_total))

pub put-requires-clause-room : goal.put-requires-clause-room
put-requires-clause-room c =
    omega (arith, c.in_ok-reserve.ensures.room, header_length c.args.params.now c.requires, after_predictor (goal.at.put-requires-clause-room c).After-unwrap-2)

pub unwrap-requires-3 : goal.unwrap-requires-3
unwrap-requires-3 c = c.put_coder.ensures.within
    (omega (arith, c.in_ok-reserve.ensures.room, header_length c.args.params.now c.requires, after_predictor (goal.at.unwrap-requires-3 c).After-unwrap-2))

pub put_coder-requires : goal.put_coder-requires
put_coder-requires c = rw c.of-3.ensures (coder_held c.args.params.now c.requires)

pub put-requires-2-clause-room : goal.put-requires-2-clause-room
put-requires-2-clause-room c =
    omega (arith, c.in_ok-reserve.ensures.room, header_length c.args.params.now c.requires, after_coder (goal.at.put-requires-2-clause-room c).After-unwrap-3)

pub returns-clause-appended : goal.returns-clause-appended
returns-clause-appended c =
    let first = rw (c.unwrap.ensures, c.numbers-image.ensures, c.of.ensures, c.reserve.ensures.same) at c.write_values.ensures.bits in
    let second = rw (c.unwrap-2.ensures, c.numbers-predictor.ensures, c.of-2.ensures) at c.write_values-2.ensures.bits in
    header_written _ _ _ _ _ _ _ first second c.put.ensures.bits (rw (c.unwrap-3.ensures, c.of-3.ensures) at c.put_coder.ensures.bits) c.put-2.ensures.bits

pub returns-clause-whole : goal.returns-clause-whole
returns-clause-whole c = spelt_whole c.args.params.now (header_of c.args.params.now) (chosen_is_spelt c.args.params.now c.requires)

pub returns-clause-room : goal.returns-clause-room
returns-clause-room c = omega (arith, header_length c.args.params.now c.requires, after_coder (goal.at.returns-clause-room c).After-unwrap-3)

pub returns-clause-bounded : goal.returns-clause-bounded
returns-clause-bounded c =
    let long = header_length c.args.params.now c.requires in
    let room = c.in_ok-reserve.ensures.room in
    let image = (rw c.unwrap.ensures at c.write_values.ensures.still) (omega (arith, room, long, image_total)) in
    let predictor = (rw c.unwrap-2.ensures at c.write_values-2.ensures.still)
    (omega (arith, room, long, after_image (goal.at.returns-clause-bounded c).After-unwrap, predictor_total)) in
    let coder = (rw c.unwrap-3.ensures at c.put_coder.ensures.still)
    (omega (arith, room, long, after_predictor (goal.at.returns-clause-bounded c).After-unwrap-2)) in
    omega (arith, c.reserve.ensures.bounded, image, predictor, coder, c.put.ensures.still, c.put-2.ensures.still)
