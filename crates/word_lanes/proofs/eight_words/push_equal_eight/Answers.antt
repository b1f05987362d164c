use Rattle.std.proofs.Common.{◌≡◌, ◌+◌, ◌*◌, ◌<◌, ◌++◌, ℕ, List, Bool, ap, ◌∙◌, arith}
use Rattle.header_bits.specs.Bits.{bits_of}
use Rattle.lanes.specs.Lanes.{number}
use Rattle.lanes.proofs.Plain.{splat}
use Rattle.word_lanes.proofs.Merging.{IsMerged, eight_texts, equal_merged}
use Rattle.word_lanes.proofs.eight_words.push_equal_eight.Goals as goal
use Rattle.word_lanes.proofs.eight_words.push_equal_eight.Goals.{After-from}

module _ (c : After-from) where
  pair : (k : ℕ) → k < 4 → IsMerged (number c.args.bits (2 * k)) c.args.length (number c.args.bits (2 * k + 1)) c.args.length (number c.sum-pairs.result k) (c.args.length + c.args.length)
  pair = equal_merged c.args.length 32 4 c.args.bits c.evens.result c.raised.result c.odds.result c.sum-pairs.result (omega (arith, c.requires.few)) c.requires.below
      c.evens.ensures c.raised.ensures c.odds.ensures c.sum-pairs.ensures

  quad : (k : ℕ) → k < 2 → IsMerged (number c.sum-pairs.result (2 * k)) (c.args.length + c.args.length) (number c.sum-pairs.result (2 * k + 1)) (c.args.length + c.args.length)
      (number c.long_sum-quads.result k) (c.args.length + c.args.length + (c.args.length + c.args.length))
  quad = equal_merged (c.args.length + c.args.length) 64 2 c.sum-pairs.result c.long_evens.result c.long_raised.result c.long_odds.result c.long_sum-quads.result
      (omega (arith, c.requires.few)) (λ k lt. (pair k lt).below) c.long_evens.ensures c.long_raised.ensures c.long_odds.ensures c.long_sum-quads.ensures

  whole : c.args.length + c.args.length + (c.args.length + c.args.length) ≡ c.from.result
  whole = omega (arith, c.from.ensures)

pub push_two-requires-clause-words : goal.push_two-requires-clause-words
push_two-requires-clause-words c = record {
  length = λ i lt. rw (splat 2 i c.from.result lt) (omega (arith, c.from.ensures, c.requires.few));
  below = λ i lt. rw (splat 2 i c.from.result lt) (rw (whole c) at (quad c i lt).below);
}

pub returns-clause-text : goal.returns-clause-text
returns-clause-text c =
    let text : ℕ → List Bool = λ j. bits_of c.args.length (number c.args.bits j) in
    let pairs : ℕ → List Bool = λ j. bits_of (c.args.length + c.args.length) (number c.sum-pairs.result j) in
    let quads : ℕ → List Bool = λ j. bits_of c.from.result (number c.long_sum-quads.result j) in
    c.push_two.ensures.text
    ∙ ap (λ (bits : List Bool). c.args.writer.bits ++ bits)
    (eight_texts text pairs quads (λ j lt. (pair c.before j lt).text) (λ j lt. rw (whole c.before) at (quad c.before j lt).text))
