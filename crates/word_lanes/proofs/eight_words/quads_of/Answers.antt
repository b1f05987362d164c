use Rattle.std.proofs.Common.{◌+◌, ◌*◌, ◌∙◌, arith}
use Rattle.word_lanes.proofs.Merging.{lanes_merged}
use Rattle.word_lanes.proofs.eight_words.quads_of.Goals as goal

pub returns-clause-words : goal.returns-clause-words
returns-clause-words c =
    (lanes_merged 28 64 2 _ _ _ _ _ _ _ _ _ _ (omega arith) (omega arith) c.requires.words c.long_evens.ensures
    (λ k lt. c.long_odds-powers.ensures k lt ∙ c.powers.ensures (2 * k + 1) (omega (arith, lt)))
    c.long_product-raised.ensures c.long_odds.ensures c.long_sum-bits.ensures c.long_evens-2.ensures c.long_odds-2.ensures c.long_sum-lengths.ensures).0

pub returns-clause-pairs : goal.returns-clause-pairs
returns-clause-pairs c =
    (lanes_merged 28 64 2 _ _ _ _ _ _ _ _ _ _ (omega arith) (omega arith) c.requires.words c.long_evens.ensures
    (λ k lt. c.long_odds-powers.ensures k lt ∙ c.powers.ensures (2 * k + 1) (omega (arith, lt)))
    c.long_product-raised.ensures c.long_odds.ensures c.long_sum-bits.ensures c.long_evens-2.ensures c.long_odds-2.ensures c.long_sum-lengths.ensures).1
