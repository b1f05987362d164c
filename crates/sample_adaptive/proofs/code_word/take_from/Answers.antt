use Rattle.std.proofs.Common.{rules, arith, ◌<◌, ◌^◌, refl}
use Rattle.header_bits.proofs.Ahead.{ahead_length}
use Rattle.sample_adaptive.proofs.Ahead.{plain_taken, plain_refused, escape_taken, escape_refused}
use Rattle.sample_adaptive.proofs.code_word.take_from.Goals as goal

pub skip-requires : goal.skip-requires
skip-requires c =
    omega (arith, ahead_length 57 c.args.reader.now.left c.args.word c.requires.ahead)

pub skip-requires-else-zeros-code : goal.skip-requires-else-zeros-code
skip-requires-else-zeros-code c =
    omega (arith, ahead_length 57 c.args.reader.now.left c.args.word c.requires.ahead)

pub returns-in_ok-residual-clause-reads : goal.returns-in_ok-residual-clause-reads
returns-in_ok-residual-clause-reads c =
    let few : c.from.result < c.args.code.limit = omega (arith, c.from.ensures, c.if-zeros-code.true) in
    let fits : c.in_ok-residual.residual < 2 ^ c.args.code.bits = rw c.in_ok-residual.ensures.value (c.in_ok-residual.ensures.below.0 refl) in
    rw c.skip.ensures.left
    (plain_taken _ _ _ _ _ _ _ _ _ c.requires.code c.ranges.word.fits c.requires.ahead c.from.ensures few
    (rw c.from.ensures c.bits_after-low.ensures) c.in_ok-residual.ensures.value fits (omega (arith, c.from.ensures, c.from-then-zeros-code.ensures)))

pub returns-in_err-residual-clause-reads : goal.returns-in_err-residual-clause-reads
returns-in_err-residual-clause-reads c =
    let few : c.from.result < c.args.code.limit = omega (arith, c.from.ensures, c.if-zeros-code.true) in
    let read =
    plain_refused c.args.reader.now.count c.args.index c.args.code c.args.reader.now.left c.args.word c.from.result c.bits_after-low.result c.requires.code
    c.ranges.word.fits c.requires.ahead c.from.ensures few
    (rw c.from.ensures c.bits_after-low.ensures) c.in_err-residual.ensures.below.1 in
    search rules

pub returns-in_ok-residual-2-clause-reads : goal.returns-in_ok-residual-2-clause-reads
returns-in_ok-residual-2-clause-reads c =
    rw (c.skip-else-zeros-code.ensures.left, c.in_ok-residual-2.ensures.value)
    (escape_taken _ _ _ _ _ _ _ c.requires.code c.ranges.word.fits c.requires.ahead c.if-zeros-code.false c.bits_after.ensures
    (c.in_ok-residual-2.ensures.needed.0 refl) c.from-else-zeros-code.ensures)

pub returns-in_err-residual-2-clause-reads : goal.returns-in_err-residual-2-clause-reads
returns-in_err-residual-2-clause-reads c =
    let read =
    escape_refused c.args.reader.now.count c.args.index c.args.code c.args.reader.now.left c.args.word c.bits_after.result c.requires.code c.ranges.word.fits
    c.requires.ahead c.if-zeros-code.false c.bits_after.ensures c.in_err-residual-2.ensures.needed.1 in
    search rules

pub escaped-requires-clause-residual : goal.escaped-requires-clause-residual
escaped-requires-clause-residual c = search rules

pub returns-in_ok-residual-2-clause-below : goal.returns-in_ok-residual-2-clause-below
returns-in_ok-residual-2-clause-below c = search rules
