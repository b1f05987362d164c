use Rattle.std.proofs.Common.{◌≡◌, ◌+◌, ◌-◌, ◌≤◌, ℕ, length, refl, ◌∙◌, arith}
use Rattle.std.proofs.lemmas.List.{take_all}
use Rattle.sample_adaptive.specs.BandStates.{statistics_of}
use Rattle.sample_adaptive.specs.Taken.{CoderState}
use Rattle.sample_adaptive.proofs.Columns.{column_after}
use Rattle.sample_adaptive.proofs.Counting.{counter_range}
use Rattle.sample_adaptive.proofs.Tracking.{settings_stay}
use Rattle.sample_adaptive.proofs.written_column.put_later.Goals as goal

pub put_eight-writer-requires-clause-counter : goal.put_eight-writer-requires-clause-counter
put_eight-writer-requires-clause-counter c =
    rw c.get-counter.ensures (counter_range _ _ c.args.settings.rescaling.size_in.1 (c.requires.state c.args.z (omega (arith, c.requires.inside, c.loop-i-test.true))).statistics)

pub loop-i-preserved : goal.loop-i-preserved
loop-i-preserved c =
    let was = c.loop-i.invariant in
    let next = c.put_eight-writer.ensures in
    let i = c.loop-i.i in
    let part : i + 8 - i ≡ 8 = omega arith in
    record {
      puts = λ v t some same has.
          let mid : CoderState = record v { bands = statistics_of c.loop-i.bands } in
          column_after c.args.z t i 8 c.args.residuals.now v mid _ _ _ _ was.within (was.puts v t some same has)
          (rw part at (next.written mid t some refl (settings_stay has)));
      state = next.state;
      count = next.bands ∙ was.count;
      within = omega (arith, c.loop-i-test.true);
      room = omega (arith, was.room, next.room);
      still = omega (arith, was.still, next.still);
    }

pub returns-then-i-residuals-clause-written : goal.returns-then-i-residuals-clause-written
returns-then-i-residuals-clause-written c = λ v t some same has.
    let all : length c.args.residuals.now ≤ c.loop-i.i = omega (arith, c.if-i-residuals.true) in
    rw (take_all c.loop-i.i c.args.residuals.now all) at (c.loop-i.invariant.puts v t some same has)

pub returns-clause-written : goal.returns-clause-written
returns-clause-written c = λ v t some same has.
    let was = c.loop-i.invariant in
    let residuals = c.args.residuals.now in
    let i = c.loop-i.i in
    let mid : CoderState = record v { bands = statistics_of c.loop-i.bands } in
    let rest : ℕ = length residuals - i in
    let all : i + rest ≡ length residuals = omega (arith, was.within) in
    let whole = take_all (length residuals) residuals (omega arith) in
    let last = c.put_each.ensures.written mid t some refl (settings_stay has) in
    rw (all, whole) at (column_after c.args.z t i rest residuals v mid _ _ _ _ was.within (was.puts v t some same has) last)
