use Rattle.std.proofs.Common.{◌++◌, List, Bool, ap, ◌∙◌, arith}
use Rattle.header_bits.proofs.Numbers.{bits_of-join}
use Rattle.lanes.specs.Lanes.{number}
use Rattle.word_lanes.proofs.Merging.{both_below, both_whole}
use Rattle.word_lanes.proofs.eight_words.push_two.Goals as goal

pub overflow_add-first : goal.overflow_add-first
overflow_add-first c =
    let w = c.args.words in
    let fits = both_whole (number w.lengths 0) (number w.lengths 1) (number w.bits 0) (number w.bits 1) c.if-before-behind-le64.true
    (c.requires.words.below 0 (omega arith)) (c.requires.words.below 1 (omega arith)) in
    rw fits.0 (record { fits = fits.1 })

pub push_reserved-requires-clause-below : goal.push_reserved-requires-clause-below
push_reserved-requires-clause-below c =
    let w = c.args.words in
    let fits = both_whole (number w.lengths 0) (number w.lengths 1) (number w.bits 0) (number w.bits 1) c.if-before-behind-le64.true
    (c.requires.words.below 0 (omega arith)) (c.requires.words.below 1 (omega arith)) in
    rw fits.0 (both_below _ _ _ _ (c.requires.words.below 0 (omega arith)) (c.requires.words.below 1 (omega arith)))

pub returns-then-before-behind-le64-clause-text : goal.returns-then-before-behind-le64-clause-text
returns-then-before-behind-le64-clause-text c =
    let w = c.args.words in
    let fits = both_whole (number w.lengths 0) (number w.lengths 1) (number w.bits 0) (number w.bits 1) c.if-before-behind-le64.true
    (c.requires.words.below 0 (omega arith)) (c.requires.words.below 1 (omega arith)) in
    (rw fits.0 at c.push_reserved.ensures.appended)
    ∙ ap (λ (bits : List Bool). c.args.writer.bits ++ bits) (bits_of-join _ _ _ _ (c.requires.words.below 1 (omega arith)))
