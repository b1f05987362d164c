use Rattle.std.proofs.Common.{arith, ◌≡◌, ◌+◌, ◌^◌, ◌∙◌, ap, ◌∷◌, ◌++◌, [], ℕ, List, get_or, take, subst, sym}
use Rattle.std.proofs.lemmas.List.{take_more, take_all}
use Rattle.block_adaptive.specs.Taken.{HasTaken}
use Rattle.file_format.specs.File.{body_of}
use Rattle.speed.specs.Bodies.{AreOfBits}
use Rattle.block_adaptive.proofs.Given.{cut_bits}
use Rattle.speed.proofs.Powers.{power_is}
use Rattle.speed.proofs.Coded.{blocks_ended, whole_text, none_greater}
use Rattle.speed.proofs.block_coder.encoded.Goals as goal
use Rattle.speed.proofs.block_coder.encoded.Goals.{After-whole_bytes, else-loop-number-test, then-loop-number-test+then-from-bits}

pub loop-number-init : goal.loop-number-init
loop-number-init c = record {
  cut = c.new-blocks.ensures.cut;
  room = c.new-blocks.ensures.room;
  count = c.new-blocks.ensures.count;
  taken = rw c.new-writer.ensures.bits c.new-blocks.ensures.taken;
}

pub put-requires-clause-more : goal.put-requires-clause-more
put-requires-clause-more c =
    omega (arith, c.loop-number.invariant.count, c.loop-number.invariant.room.room, c.requires.count, c.loop-number-test.true)

pub put-requires-clause-number : goal.put-requires-clause-number
put-requires-clause-number c =
    let power = power_is c.bits-bits.result c.bits-bits.ensures.range.1 in
    let same : 2 ^ c.bits-bits.result ≡ 2 ^ c.loop-number.blocks.cut.set.bits =
    ap (λ (bits : ℕ). 2 ^ bits) (c.bits-bits.ensures.value ∙ sym (cut_bits c.args.params.now c.loop-number.blocks.cut c.loop-number.invariant.cut)) in
    omega (arith, c.if-from-bits.false, c.from.ensures, power, same)

pub loop-number-preserved : goal.loop-number-preserved
loop-number-preserved c =
    let next = c.in_ok-put.ensures.taken (take c.loop-number.number-index c.args.numbers.now) c.loop-number.writer.bits c.loop-number.invariant.taken in
    let more : take (c.loop-number.number-index + 1) c.args.numbers.now
    ≡ take c.loop-number.number-index c.args.numbers.now ++ get_or c.args.numbers.now c.loop-number.number-index 0 ∷ [] =
    take_more c.args.numbers.now c.loop-number.number-index 0 c.loop-number-test.true in
    record {
      cut = c.in_ok-put.ensures.cut ∙ c.loop-number.invariant.cut;
      room = rw c.in_ok-put.ensures.cut c.loop-number.invariant.room;
      count = omega (arith, c.in_ok-put.ensures.counted, c.loop-number.invariant.count);
      taken = rw (more, next.1) next.2;
    }

-- where no number is greater all were taken
all_taken : (c : After-whole_bytes) → AreOfBits c.args.params.now.kind.bits c.args.numbers.now
    → take c.loop-number.number-index c.args.numbers.now ≡ c.args.numbers.now
all_taken c small = elim c.loop-number-test.branch [
  | else-loop-number-test w ↦ take_all c.loop-number.number-index c.args.numbers.now w.loop-number-test.false
  | then-loop-number-test+then-from-bits w ↦
      let power = power_is c.bits-bits.result c.bits-bits.ensures.range.1 in
      let same : 2 ^ c.bits-bits.result ≡ 2 ^ c.args.params.now.kind.bits = ap (λ (bits : ℕ). 2 ^ bits) c.bits-bits.ensures.value in
      absurd (none_greater c.args.params.now.kind.bits c.args.numbers.now c.loop-number.number-index small w.loop-number-test.true
      (omega (arith, w.if-from-bits.true, w.from.ensures, power, same)))
]

pub returns-clause-body : goal.returns-clause-body
returns-clause-body c =
    whole_text c.whole_bytes.result (AreOfBits c.args.params.now.kind.bits c.args.numbers.now) c.end.new.writer.bits
    (body_of c.args.params.now c.args.numbers.now) c.whole_bytes.ensures.filled
    (λ small.
    let taken : HasTaken c.loop-number.blocks c.args.numbers.now c.loop-number.writer.bits =
    subst (λ (numbers : List ℕ). HasTaken c.loop-number.blocks numbers c.loop-number.writer.bits) (all_taken c small) c.loop-number.invariant.taken in
    blocks_ended c.args.params.now c.loop-number.blocks c.args.numbers.now c.loop-number.writer.bits c.end.new.writer.bits c.requires.lawful
    c.loop-number.invariant.cut c.loop-number.invariant.room c.requires.count taken c.in_ok-end.ensures.ended)
