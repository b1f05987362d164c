use Rattle.std.proofs.Common.{rules, ◌≡◌, ◌+◌, refl, arith}
use Rattle.std.proofs.lemmas.List.{nil_from_length}
use Rattle.sample_adaptive.proofs.Writing.{run_taken, writes_first}
use Rattle.sample_adaptive.proofs.stats.Stats.put_run.Goals as goal

pub returns-then-t-ge1-clause-written : goal.returns-then-t-ge1-clause-written
returns-then-t-ge1-clause-written c = rw (← c.in_ok-make_room.ensures.same) (c.put_later.ensures.written c.args.t 0 (omega (arith, c.if-t-ge1.true)))

-- a first number and those after it
pub returns-in-Ok-clause-written : goal.returns-in-Ok-clause-written
returns-in-Ok-clause-written c =
    let none : c.args.t ≡ 0 = omega arith in
    rw (← c.in_ok-make_room.ensures.same, none, c.in-Some.ensures.cases.0)
    (writes_first (λ j. c.args.z) (λ j. 0 + j) 0 c.in-Some.first.now c.in-Some.later.now c.args.self.now _ _ c.make_room.new.writer.bits _ _ c.in-Ok.ensures.written c.in-Ok.ensures.counted (c.put_later-in-Some.ensures.written 0 1 (omega arith)))

pub returns-in_default-clause-written : goal.returns-in_default-clause-written
returns-in_default-clause-written c =
    let none = nil_from_length c.args.residuals.now (omega (arith, c.in_default.ensures.cases)) in
    rw (← c.in_ok-make_room.ensures.same, none) (refl, refl)

pub returns-then-t-ge1-clause-taken : goal.returns-then-t-ge1-clause-taken
returns-then-t-ge1-clause-taken c = run_taken c.args.z c.args.t c.args.residuals.now _ _ _ _ c.requires.band (returns-then-t-ge1-clause-written c)

pub returns-in-Ok-clause-taken : goal.returns-in-Ok-clause-taken
returns-in-Ok-clause-taken c = run_taken c.args.z c.args.t c.args.residuals.now _ _ _ _ c.requires.band (returns-in-Ok-clause-written c)

pub returns-in_default-clause-taken : goal.returns-in_default-clause-taken
returns-in_default-clause-taken c = run_taken c.args.z c.args.t c.args.residuals.now _ _ _ _ c.requires.band (returns-in_default-clause-written c)

pub put_later-requires-in-Some-clause-room : goal.put_later-requires-in-Some-clause-room
put_later-requires-in-Some-clause-room c = search rules

pub put_later-requires-in-Some-clause-residuals : goal.put_later-requires-in-Some-clause-residuals
put_later-requires-in-Some-clause-residuals c = (rw (← c.in-Ok.ensures.bands.1, c.in-Some.ensures.cases.0) at c.requires.residuals).1
