use Rattle.std.proofs.Common.{◌<◌, [], ◌∷◌, length, w32, SFits, to_z-of_z, rules, arith, refl, length-set}
use Rattle.sample_prediction.specs.Lines.{line_difference}
use Rattle.predict_core.proofs.Places.{written_next}
use Rattle.predict_core.proofs.differences.fills.fill_four.Goals as goal

pub loop-i-preserved : goal.loop-i-preserved
loop-i-preserved c =
    let kept = c.loop-i.invariant in let first_fits : SFits w32 c.central_at.result = search rules in
    let second_fits : SFits w32 c.central_at-in-loop-i.result = search rules in let third_fits : SFits w32 c.central_at-in-loop-i-2.result = search rules in
    let fourth_fits : SFits w32 c.central_at-in-loop-i-3.result = search rules in
    let inside : c.loop-i.i < length c.loop-i.out = omega (arith, kept.long, c.loop-i-test.true) in record {
      done = written_next [] (λ k. line_difference c.args.column c.args.first.now.current c.args.first.now.above k ∷ line_difference c.args.column
          c.args.second.now.current c.args.second.now.above k ∷ line_difference c.args.column c.args.third.now.current c.args.third.now.above k
          ∷ line_difference c.args.column c.args.fourth.now.current c.args.fourth.now.above k ∷ []) _ _ _ inside
          (rw (to_z-of_z first_fits, c.central_at.ensures.value, to_z-of_z second_fits, c.central_at-in-loop-i.ensures.value)
          (rw (to_z-of_z third_fits, c.central_at-in-loop-i-2.ensures.value, to_z-of_z fourth_fits, c.central_at-in-loop-i-3.ensures.value) refl)) kept.done;
      long = rw length-set kept.long;
    }
