use Rattle.std.proofs.Common.{◌^◌, ◌∙◌, ap, arith}
use Rattle.word_lanes.proofs.Merging.{lanes_merged}
use Rattle.word_lanes.proofs.eight_words.pairs_of.Goals as goal

pub returns-clause-words : goal.returns-clause-words
returns-clause-words c =
    (lanes_merged 14 32 4 _ _ _ _ _ _ _ _ _ _ (omega arith) (omega arith) c.requires.words c.evens.ensures
    (λ k lt. c.powers.ensures k lt ∙ ap (λ n. 2 ^ n) (c.odds-behind.ensures k lt))
    c.product-raised.ensures c.odds.ensures c.sum.ensures c.evens-2.ensures c.odds-behind.ensures c.sum-2.ensures).0

pub returns-clause-pairs : goal.returns-clause-pairs
returns-clause-pairs c =
    (lanes_merged 14 32 4 _ _ _ _ _ _ _ _ _ _ (omega arith) (omega arith) c.requires.words c.evens.ensures
    (λ k lt. c.powers.ensures k lt ∙ ap (λ n. 2 ^ n) (c.odds-behind.ensures k lt))
    c.product-raised.ensures c.odds.ensures c.sum.ensures c.evens-2.ensures c.odds-behind.ensures c.sum-2.ensures).1
