use Rattle.std.proofs.Common.{◌≡◌, ◌+◌, ◌<◌, length, arith}
use Rattle.sample_adaptive.proofs.PlacesRead.{run_steps}
use Rattle.sample_adaptive.proofs.piece.take_some.Goals as goal

pub returns-in_default-clause-taken : goal.returns-in_default-clause-taken
returns-in_default-clause-taken c = λ v z t k begun first within settings some at was.
    let none : c.take_few-taken.result ≡ 0 = omega (arith, c.if-taken-gt0.false) in
    rw (c.in_default.ensures.same.0, c.in_default.ensures.same.1, c.piece_ended.ensures.value)
    (rw none at (c.take_few-taken.ensures.taken v z t k begun first within settings some was))

pub returns-clause-taken : goal.returns-clause-taken
returns-clause-taken c = λ v z t k begun first within settings some at was.
    let none : c.args.i + c.take_few-taken.result ≡ c.args.i = omega (arith, c.if-taken-gt0.false) in
    let one = c.in-Some.ensures in
    let lt : c.args.i < length c.take_few-taken.new.residuals = omega (arith, c.requires.inside, c.take_few-taken.ensures.long) in
    run_steps t c.piece_ended.result
    (rw (none, ← c.piece_ended.ensures.value) at (c.take_few-taken.ensures.taken v z t k begun first within settings some was)) within some lt
    (rw (settings.umax_is, settings.bits_are, ← at) one.reads) one.count (rw settings.size_is one.counts)
