use Rattle.std.proofs.Common.{◌≡◌, ◌+◌, ◌/◌, ◌^◌, ◌<◌, get_or, refl, arith}
use Rattle.std.proofs.lemmas.Nat.{and_mask}
use Rattle.sample_adaptive.specs.declared.code_word.Code.{Code}
use Rattle.sample_adaptive.proofs.Counting.{accumulator_range}
use Rattle.sample_adaptive.proofs.Forms.{plain_word, plain_below}
use Rattle.sample_adaptive.proofs.WordsFrom.{within_piece, text_more}
use Rattle.sample_adaptive.proofs.written_run.put_one.Goals as goal

pub settled-kept-requires-clause-statistics : goal.settled-kept-requires-clause-statistics
settled-kept-requires-clause-statistics c =
    rw (← c.requires.sum) at (within_piece _ _ _ _ c.requires.piece c.args.i c.requires.within)

pub overflow_add-after : goal.overflow_add-after
overflow_add-after c =
    let most = accumulator_range _ _ c.args.run.settings.rescaling.size_in.1 (within_piece _ _ _ _ c.requires.piece c.args.i c.requires.within) in
    record { fits = omega (arith, most, c.requires.sum, c.from.ensures, c.ranges.run) }

pub push_reserved-requires-clause-below : goal.push_reserved-requires-clause-below
push_reserved-requires-clause-below c =
    let kept = c.settled-kept.result in
    let is = c.settled-kept.ensures.kept in
    let residual = get_or c.args.run.residuals.now c.args.i 0 in
    let long : residual / 2 ^ kept.k + kept.shortest ≡ residual / 2 ^ kept.k + 1 + kept.k = omega (arith, is.shortest) in
    rw (c.from-2.ensures, c.from-then-quotient-run.ensures, is.one, and_mask, long) (plain_below (residual / 2 ^ kept.k) kept.k residual)

pub returns-then-quotient-run-clause-text : goal.returns-then-quotient-run-clause-text
returns-then-quotient-run-clause-text c = λ old text.
    let settings = c.args.run.settings in
    let kept = c.settled-kept.result in
    let is = c.settled-kept.ensures.kept in
    let residual = get_or c.args.run.residuals.now c.args.i 0 in
    let few : residual / 2 ^ kept.k < settings.limit = rw c.from-2.ensures at c.if-quotient-run.true in
    let long : residual / 2 ^ kept.k + kept.shortest ≡ residual / 2 ^ kept.k + 1 + kept.k = omega (arith, is.shortest) in
    let code : Code = record { limit = settings.limit; k = kept.k; bits = settings.bits } in
    let more = rw (c.from-2.ensures, c.from-then-quotient-run.ensures, is.one, and_mask, long, plain_word code residual few) at c.push_reserved.ensures.appended in
    text_more _ _ _ _ c.requires.piece c.args.i old _ _ _ _ _ c.requires.within c.requires.sum refl c.settled-kept.ensures.k more text

pub returns-clause-text : goal.returns-clause-text
returns-clause-text c = λ old text.
    text_more _ _ _ _ c.requires.piece c.args.i old _ _ _ _ _ c.requires.within c.requires.sum refl c.settled-kept.ensures.k c.put_long.ensures.text text
