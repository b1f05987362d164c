use Rattle.std.proofs.Common.{◌≡◌, ◌*◌, ◌^◌, ◌≤◌, ℕ, ℤ, pos, ◌+ℤ◌, ◌*ℤ◌, unsigned_abs, SFits, w32, to_z, of_z, to_z-of_z, rules, arith, ◌∙◌}
use Rattle.std.proofs.lemmas.Int.{ints}
use Rattle.sample_prediction.proofs.Floors.{floor_of_sum}
use Rattle.predict_core.proofs.inverse.chain.center_of.Goals as goal

-- what is halved, as the code computes it
halved : (part : ℤ) (sum : ℕ) → unsigned_abs part ≤ 18 * 2 ^ 20 → sum ≤ 262140
    → to_z w32 (of_z w32 (to_z w32 (of_z w32 part) +ℤ to_z w32 (of_z w32 (to_z w32 sum +ℤ pos 2)))) ≡ (part +ℤ pos sum) +ℤ pos 2 *ℤ pos 1
halved part sum h l = omega (arith, ints, h)

pub returns-clause-value : goal.returns-clause-value
returns-clause-value c =
    let fits : SFits w32 c.prediction_of.result = search rules in
    let value = rw (halved c.args.part c.args.sum c.requires.part_in c.requires.sum_in) at c.prediction_of.ensures.value in
    to_z-of_z fits ∙ value ∙ floor_of_sum (c.args.part +ℤ pos c.args.sum) (pos 1) 2 (omega arith)
