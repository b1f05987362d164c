use Rattle.std.proofs.Common.{◌+◌, ◌≤◌, refl, arith}
use Rattle.std.specs.Int.Count.{count_leading_zeros}
use Rattle.header_bits.proofs.Ahead.{ahead_length}
use Rattle.sample_adaptive.proofs.ShortWords.{ahead_turned, fewer_ahead, few_zeros_fit, word_taken}
use Rattle.sample_adaptive.proofs.short_word.take_short_word.Goals as goal

pub skip-requires : goal.skip-requires
skip-requires c =
    omega (arith, c.if-length-most.false, c.from-2.ensures, ahead_length c.args.most c.args.reader.now.left c.args.bits.now c.requires.ahead)

pub returns-clause-reads : goal.returns-clause-reads
returns-clause-reads c = λ index.
    let ahead = c.with_one_below-ahead in
    let left = c.args.reader.now.left in
    rw (c.skip.ensures.left, c.from-2.ensures, c.from.ensures, c.rotate_left.ensures)
    (word_taken c.args.reader.now.count index c.args.code left ahead.result (count_leading_zeros 64 ahead.result) c.args.power c.args.most c.requires.code
    ahead.type_inv (omega (arith, c.requires.few)) (ahead.ensures.ahead left c.args.most (omega (arith, c.requires.few)) c.requires.ahead) refl c.requires.power
    c.if-zeros-code.false c.if-length-most.false c.requires.k c.requires.most)

pub returns-clause-below : goal.returns-clause-below
returns-clause-below c =
    rw c.from.ensures (few_zeros_fit c.args.code _ c.args.power c.args.most c.rotate_left.result c.requires.power c.requires.k c.requires.most
    c.if-length-most.false)

pub returns-clause-ahead : goal.returns-clause-ahead
returns-clause-ahead c = λ more few h.
    let ahead = c.with_one_below-ahead in
    let left = c.args.reader.now.left in
    let length = count_leading_zeros 64 ahead.result + 1 + c.args.code.k in
    let short : length ≤ c.args.most = c.if-length-most.false in
    rw (c.skip.ensures.left, c.from-2.ensures, c.rotate_left.ensures)
    (ahead_turned more length left ahead.result (omega arith) (omega (arith, few, short)) (omega (arith, few, short)) ahead.type_inv
    (ahead.ensures.ahead left (more + length) (omega (arith, few, short)) (fewer_ahead (more + c.args.most) (more + length) left c.args.bits.now (omega (arith, short)) h)))
