use Rattle.std.proofs.Common.{◌≡◌, ◌∷◌, Ok, Err, sym, arith}
use Rattle.std.proofs.lemmas.List.{nil_from_length}
use Rattle.std.proofs.lemmas.Result.{err_from_is_err_and}
use Rattle.sample_adaptive.specs.Reading.{word_at}
use Rattle.sample_adaptive.specs.Taken.{code_by}
use Rattle.sample_adaptive.proofs.Running.{same_band}
use Rattle.sample_adaptive.proofs.PlacesRead.{none, cons, refused}
use Rattle.sample_adaptive.proofs.read_run.take_words.Goals as goal

pub returns-then-t-ge1-clause-taken : goal.returns-then-t-ge1-clause-taken
returns-then-t-ge1-clause-taken c = λ v z within settings own. c.take_later.ensures.taken v z c.args.t 0 within settings own (omega (arith, c.if-t-ge1.true))

pub returns-in_err-first-in-Some-clause-taken : goal.returns-in_err-first-in-Some-clause-taken
returns-in_err-first-in-Some-clause-taken c = λ v z within settings own.
    let told = err_from_is_err_and c.from_residual.result c.from_residual.ensures.1 in
    let none : c.args.t ≡ 0 = omega (arith, c.if-t-ge1.false) in
    let read : word_at c.args.reader.now.count c.args.index (code_by v z 0) c.args.reader.now.left ≡ Err c.in_err-first-in-Some.field-0.0 =
    rw settings.bits_are c.in_err-first-in-Some.ensures.reads in
    rw (told.1, told.2, none)
    (refused _ _ 0 _ v v _ c.take_word.new.reader.left within _ (c.in-Some.first.now ∷ c.in-Some.later.now) read (omega arith))

pub returns-in_ok-first-in-Some-clause-taken : goal.returns-in_ok-first-in-Some-clause-taken
returns-in_ok-first-in-Some-clause-taken c = λ v z within settings own.
    let none : c.args.t ≡ 0 = omega (arith, c.if-t-ge1.false) in
    let read : word_at c.args.reader.now.count c.args.index (code_by v z 0) c.args.reader.now.left
    ≡ Ok (c.in_ok-first-in-Some.field-0, c.take_word.new.reader.left) = rw settings.bits_are c.in_ok-first-in-Some.ensures.reads in
    rw none (cons _ _ 0 _ v _ _ _ within _ _ _ _ read c.in_ok-first-in-Some.ensures.count
    (c.take_later-in-Some.ensures.taken v z 0 1 within settings own (omega arith)))

pub returns-in-None-clause-taken : goal.returns-in-None-clause-taken
returns-in-None-clause-taken c = λ v z within settings own.
    rw (nil_from_length c.args.residuals.now (omega (arith, c.in-None.ensures.cases)), same_band v z _ (sym own)) (none _ _ 0 _ v _)
