use Rattle.std.proofs.Common.{◌+◌, ◌<◌, ◌≤◌, ℕ, length, get_or, refl, ◌∙◌, arith}
use Rattle.std.proofs.lemmas.List.{length-set, take_all}
use Rattle.sample_adaptive.proofs.Columns.{one_more}
use Rattle.sample_adaptive.proofs.Tracking.{state_set}
use Rattle.sample_adaptive.proofs.written_singly.put_each.Goals as goal

pub loop-i-init : goal.loop-i-init
loop-i-init c = record { puts = λ v t some same has. (rw (← same) refl, refl); state = c.requires.state; count = refl; room = omega arith; still = omega arith }

pub put_one-writer-requires-clause-state : goal.put_one-writer-requires-clause-state
put_one-writer-requires-clause-state c =
    rw c.get-state.ensures (c.loop-i.invariant.state (c.args.at + c.loop-i.i) (omega (arith, c.loop-i-test.true, c.loop-i.invariant.count, c.requires.inside)))

pub put_one-writer-requires-clause-room : goal.put_one-writer-requires-clause-room
put_one-writer-requires-clause-room c = omega (arith, c.loop-i.invariant.room, c.requires.room, c.loop-i-test.true)

pub loop-i-preserved : goal.loop-i-preserved
loop-i-preserved c =
    let was = c.loop-i.invariant in
    let residuals = c.args.residuals.now in
    let i = c.loop-i.i in
    let at : ℕ = c.args.at + i in
    let bands = c.loop-i.bands in
    let inside : at < length bands = omega (arith, c.loop-i-test.true, was.count, c.requires.inside) in
    rw c.set.ensures (record {
      puts = one_more c.args.settings c.args.at i at (get_or residuals i 0) residuals c.args.bands.now bands c.put_one-writer.new.state c.args.writer.bits _ _ refl
          c.loop-i-test.true inside refl (rw c.get-state.ensures at c.put_one-writer.ensures.text) (rw c.get-state.ensures at c.put_one-writer.ensures.counts) was.puts;
      state = state_set c.args.settings bands at c.put_one-writer.new.state inside c.put_one-writer.ensures.state was.state;
      count = length-set bands at c.put_one-writer.new.state ∙ was.count;
      room = omega (arith, was.room, c.put_one-writer.ensures.room);
      still = omega (arith, was.still, c.put_one-writer.ensures.still);
    })

pub returns-clause-written : goal.returns-clause-written
returns-clause-written c = λ v t some same has.
    let all : length c.args.residuals.now ≤ c.loop-i.i = omega arith in
    rw (take_all c.loop-i.i c.args.residuals.now all) at (c.loop-i.invariant.puts v t some same has)
