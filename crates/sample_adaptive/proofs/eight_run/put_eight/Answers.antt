use Rattle.std.proofs.Common.{◌≡◌, ◌+◌, ◌^◌, ◌<◌, ◌≤◌, ◌∙◌, ℕ, arith}
use Rattle.lanes.specs.Lanes.{number}
use Rattle.word_lanes.specs.EightWords.{word_text}
use Rattle.word_lanes.proofs.Merging.{short_length}
use Rattle.sample_adaptive.specs.Runs.{text_within}
use Rattle.sample_adaptive.proofs.Counting.{accumulator_range}
use Rattle.sample_adaptive.proofs.Eights.{plain_lane, short_word, texts_more}
use Rattle.sample_adaptive.proofs.WordsFrom.{sum_more, within_piece}
use Rattle.sample_adaptive.proofs.eight_run.put_eight.Goals as goal

pub overflow_add-after : goal.overflow_add-after
overflow_add-after c =
    let most = accumulator_range _ _ c.args.run.settings.rescaling.size_in.1
    (within_piece _ _ _ _ c.requires.piece (c.args.i + 7) (omega (arith, c.requires.within))) in
    let last = c.sums_of-before.ensures 7 (omega arith) in
    record { fits = omega (arith, most, last, c.last-last.ensures, c.from.ensures, c.ranges.run) }

-- the word of a lane is a residual's code word
word : (c : goal.After-eight_of) (j : ℕ) → j < 8
    → (number c.eight_of.result.lengths j ≤ 14) × (number c.eight_of.result.bits j < 2 ^ number c.eight_of.result.lengths j)
    × (word_text c.eight_of.result j ≡ text_within c.args.run.settings c.args.run.state.statistics c.args.run.residuals.now (c.args.i + j))
word c j few =
    let settings = c.args.run.settings in
    let is = c.words_of-words.ensures in
    let longest = c.requires.kept.longest j few in
    let within = c.are_within.ensures c.if-are_within.true j few in
    let made = short_word settings.limit settings.bits _ _ _ _ (is.word j few) (omega (arith, within, longest)) (omega (arith, within, longest, is.parameter j few)) in
    rw (c.eight_of.ensures.lengths, c.eight_of.ensures.bits) (omega (arith, within, longest), made.0, made.1)

pub push_eight-requires-clause-words : goal.push_eight-requires-clause-words
push_eight-requires-clause-words c = record { length = λ j few. (word c j few).0; below = λ j few. (word c j few).1 }

pub push_eight-requires-clause-room : goal.push_eight-requires-clause-room
push_eight-requires-clause-room c =
    let short = short_length c.eight_of.result (record { length = λ j few. (word c j few).0; below = λ j few. (word c j few).1 }) in
    omega (arith, c.requires.room, short)

pub returns-then-are_within-clause-text : goal.returns-then-are_within-clause-text
returns-then-are_within-clause-text c = λ old text.
    let i = c.args.i in
    let first : i + 0 ≡ i = omega arith in
    let more = texts_more _ _ _ _ c.requires.piece i (word_text c.eight_of.result) (λ j few. (word c.before j few).2) c.requires.within 8 0 (omega arith) old
    c.args.writer.bits (rw first text) in
    c.push_eight.ensures.text ∙ rw first at more

pub returns-then-are_within-clause-sum : goal.returns-then-are_within-clause-sum
returns-then-are_within-clause-sum c =
    let i = c.args.i in
    let next : i + 7 + 1 ≡ i + 8 = omega arith in
    let more = rw next at (sum_more c.args.run.residuals.now (i + 7) (omega (arith, c.requires.within))) in
    let last = c.sums_of-before.ensures 7 (omega arith) in
    omega (arith, more, last, c.last-last.ensures, c.from.ensures)

-- the word of a lane, which may be longer, is a residual's code word
long_word : (c : goal.After-eight_of-then-are_plain) (j : ℕ) → j < 8
    → (number c.eight_of-then-are_plain.result.lengths j ≤ 48)
    × (number c.eight_of-then-are_plain.result.bits j < 2 ^ number c.eight_of-then-are_plain.result.lengths j)
    × (word_text c.eight_of-then-are_plain.result j ≡ text_within c.args.run.settings c.args.run.state.statistics c.args.run.residuals.now (c.args.i + j))
long_word c j few =
    let settings = c.args.run.settings in
    let is = c.words_of-words.ensures in
    let plain = c.are_plain.ensures.plain c.if-are_plain.true j few in
    let small = c.are_plain.ensures.small c.if-are_plain.true j few in
    let made = plain_lane settings.limit settings.bits _ _ _ _ (is.word j few) small (omega (arith, plain, is.parameter j few)) in
    rw (c.eight_of-then-are_plain.ensures.lengths, c.eight_of-then-are_plain.ensures.bits)
    (omega (arith, plain, settings.limit_in, c.requires.kept.k, settings.bits_in), made.0, made.1)

pub push_long_eight-requires-clause-words : goal.push_long_eight-requires-clause-words
push_long_eight-requires-clause-words c = record { length = λ j few. (long_word c j few).0; below = λ j few. (long_word c j few).1 }

pub returns-then-are_plain-clause-text : goal.returns-then-are_plain-clause-text
returns-then-are_plain-clause-text c = λ old text.
    let i = c.args.i in
    let first : i + 0 ≡ i = omega arith in
    let more = texts_more _ _ _ _ c.requires.piece i (word_text c.eight_of-then-are_plain.result) (λ j few. (long_word c.before j few).2) c.requires.within 8 0
    (omega arith) old c.args.writer.bits (rw first text) in
    c.push_long_eight.ensures.text ∙ rw first at more

pub returns-then-are_plain-clause-sum : goal.returns-then-are_plain-clause-sum
returns-then-are_plain-clause-sum c =
    let i = c.args.i in
    let next : i + 7 + 1 ≡ i + 8 = omega arith in
    let more = rw next at (sum_more c.args.run.residuals.now (i + 7) (omega (arith, c.requires.within))) in
    let last = c.sums_of-before.ensures 7 (omega arith) in
    omega (arith, more, last, c.last-last.ensures, c.from.ensures)
