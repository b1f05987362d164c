use Rattle.std.proofs.Common.{◌≡◌, ◌+◌, ◌≤◌, refl, arith}
use Rattle.std.specs.Int.Count.{count_leading_zeros}
use Rattle.header_bits.proofs.Ahead.{ahead_length}
use Rattle.sample_adaptive.proofs.ShortWords.{ahead_turned, fewer_ahead, short_taken, short_below}
use Rattle.sample_adaptive.proofs.short_word.ShortWords.take.Goals as goal

pub skip-requires : goal.skip-requires
skip-requires c =
    omega (arith, c.if-zeros-self.false, c.args.self.within_length, c.args.self.after_is, c.from-2.ensures, ahead_length c.args.self.most c.args.reader.now.left c.args.bits.now c.requires)

pub returns-clause-below : goal.returns-clause-below
returns-clause-below c =
    let s = c.args.self in
    rw c.from.ensures (short_below s.code _ s.power s.zeros c.rotate_left.result s.code_is s.power_is c.if-zeros-self.false s.within_bits)

pub returns-clause-reads : goal.returns-clause-reads
returns-clause-reads c = λ index.
    let s = c.args.self in
    let ahead = c.with_one_below-ahead in
    let left = c.args.reader.now.left in
    let length : count_leading_zeros 64 ahead.result + s.after ≡ count_leading_zeros 64 ahead.result + 1 + s.code.k = omega (arith, s.after_is) in
    rw (c.skip.ensures.left, c.from-2.ensures, c.from.ensures, c.rotate_left.ensures, length)
    (short_taken c.args.reader.now.count index s.code left ahead.result (count_leading_zeros 64 ahead.result) s.power s.most s.zeros s.code_is ahead.type_inv (omega (arith, s.most_in))
    (ahead.ensures.ahead left s.most (omega (arith, s.most_in)) c.requires) refl s.power_is c.if-zeros-self.false s.within_limit s.within_length s.within_bits)

pub returns-clause-ahead : goal.returns-clause-ahead
returns-clause-ahead c = λ more few h.
    let ahead = c.with_one_below-ahead in
    let left = c.args.reader.now.left in
    let length = count_leading_zeros 64 ahead.result + 1 + c.args.self.code.k in
    let short : length ≤ c.args.self.most = omega (arith, c.if-zeros-self.false, c.args.self.within_length) in
    let same : count_leading_zeros 64 ahead.result + c.args.self.after ≡ length = omega (arith, c.args.self.after_is) in
    rw (c.skip.ensures.left, c.from-2.ensures, c.rotate_left.ensures, same)
    (ahead_turned more length left ahead.result (omega arith) (omega (arith, few, short)) (omega (arith, few, short)) ahead.type_inv
    (ahead.ensures.ahead left (more + length) (omega (arith, few, short)) (fewer_ahead (more + c.args.self.most) (more + length) left c.args.bits.now (omega (arith, short)) h)))
