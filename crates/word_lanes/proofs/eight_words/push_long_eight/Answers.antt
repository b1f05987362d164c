use Rattle.std.proofs.Common.{◌≡◌, ℕ, suc, ◌+◌, ◌-◌, ◌++◌, ◌∙◌, List, Bool, ap, ap₂, append_assoc, arith}
use Rattle.header_bits.specs.Bits.{bits_of}
use Rattle.word_lanes.specs.EightWords.{texts, word_text}
use Rattle.word_lanes.proofs.eight_words.push_long_eight.Goals as goal

pub loop-i-preserved : goal.loop-i-preserved
loop-i-preserved c =
    let i : ℕ = c.loop-i.i in
    let text : ℕ → List Bool = word_text c.args.words in
    let was = c.loop-i.invariant in
    let left : 8 - i ≡ suc (8 - (i + 1)) = omega (arith, c.loop-i-test.true) in
    let next : suc i ≡ i + 1 = omega arith in
    let rest : List Bool = texts text (i + 1) (8 - (i + 1)) in
    let word : bits_of c.from-in-loop-i.result c.from.result ≡ text i = ap₂ bits_of c.from-in-loop-i.ensures c.from.ensures in
    let here = c.push_reserved.ensures.appended ∙ ap (λ (bits : List Bool). c.loop-i.writer.bits ++ bits) word in
    let few = c.requires.words.length i (omega (arith, c.loop-i-test.true)) in
    record {
      text = ap (λ (bits : List Bool). bits ++ rest) here ∙ append_assoc c.loop-i.writer.bits (text i) rest ∙ rw next at (rw left at was.text);
      room = omega (arith, was.room, c.push_reserved.ensures.room, few, c.from-in-loop-i.ensures);
      still = omega (arith, was.still, c.push_reserved.ensures.room);
    }
