use Rattle.std.proofs.Common.{◌≡◌, ◌+◌, ◌^◌, ◌-ℤ◌, int_lt, pos, neg_ℤ, true, false, le_trans, SFits, to_z-of_z, w32, refl, ◌∙◌, arith, rules}
use Rattle.std.proofs.lemmas.Int.{ints, fits_signed_from_abs}
use Rattle.sample_prediction.proofs.Moves.{moved_is, chosen_weight, room_word, limit_within}
use Rattle.sample_prediction.proofs.SignMasks.{either_within}
use Rattle.sample_prediction.proofs.weights.moved.Goals as goal
use Rattle.sample_prediction.proofs.weights.moved.Goals.{Start, After-chosen}

-- a difference with the other sign
negated : (c : Start) → SFits w32 (pos 0 -ℤ c.args.difference)
negated c = let r = room_word c.args.shift.left in fits_signed_from_abs w32 (pos 0 -ℤ c.args.difference) (omega (arith, ints, r, c.requires.difference_in))

pub overflow_sub-difference : goal.overflow_sub-difference
overflow_sub-difference c = rw (to_z-of_z c.ranges.difference) (negated (goal.at.overflow_sub-difference c).Start)

pub stepped-requires-2 : goal.stepped-requires-2
stepped-requires-2 c = rw (to_z-of_z c.ranges.difference, to_z-of_z (negated (goal.at.stepped-requires-2 c).Start)) (omega (arith, ints))

pub chosen-requires-clause-raised_in : goal.chosen-requires-clause-raised_in
chosen-requires-clause-raised_in c =
    let fits : SFits w32 c.clip_weight-raised.result = search rules in
    rw (to_z-of_z fits) (le_trans c.clip_weight-raised.ensures.bound (limit_within c.args.omega c.requires.omega_in))

pub chosen-requires-clause-lowered_in : goal.chosen-requires-clause-lowered_in
chosen-requires-clause-lowered_in c =
    let fits : SFits w32 c.clip_weight-lowered.result = search rules in
    rw (to_z-of_z fits) (le_trans c.clip_weight-lowered.ensures.bound (limit_within c.args.omega c.requires.omega_in))

pub returns-clause-value : goal.returns-clause-value
returns-clause-value c =
    let s = (goal.at.returns-clause-value c).Start in let up_fits : SFits w32 c.stepped.result = search rules in
    let down_fits : SFits w32 c.stepped-2.result = search rules in let raised_fits : SFits w32 c.clip_weight-raised.result = search rules in
    let lowered_fits : SFits w32 c.clip_weight-lowered.result = search rules in
    let fits : SFits w32 c.chosen.result = search rules in let steps = c.args.shift.steps in
    let back : pos 0 -ℤ c.args.difference ≡ neg_ℤ c.args.difference = omega (arith, ints) in
    let raised = moved_is _ _ false _ _ _ _ _ refl
    ((simp (to_z-of_z c.ranges.difference) at c.stepped.ensures.value) ∙ steps c.args.difference)
    (simp (to_z-of_z c.ranges.weight, to_z-of_z up_fits) at c.clip_weight-raised.ensures.value) in
    let lowered = moved_is _ _ true _ _ (pos 0 -ℤ c.args.difference) _ _ back
    ((simp (to_z-of_z c.ranges.difference, to_z-of_z (negated s)) at c.stepped-2.ensures.value)
    ∙ steps (pos 0 -ℤ c.args.difference)) (simp (to_z-of_z c.ranges.weight, to_z-of_z down_fits) at c.clip_weight-lowered.ensures.value) in
    rw (to_z-of_z fits)
    (chosen_weight _ _ (int_lt c.args.sign_mask (pos 0)) _ _ _ _ _ raised lowered
    (simp (to_z-of_z c.ranges.sign_mask, to_z-of_z raised_fits, to_z-of_z lowered_fits) at c.chosen.ensures))

pub returns-clause-bound : goal.returns-clause-bound
returns-clause-bound c =
    let raised_fits : SFits w32 c.clip_weight-raised.result = search rules in let lowered_fits : SFits w32 c.clip_weight-lowered.result = search rules in
    let fits : SFits w32 c.chosen.result = search rules in
    let is = simp (to_z-of_z c.ranges.sign_mask, to_z-of_z raised_fits, to_z-of_z lowered_fits) at c.chosen.ensures in
    rw (to_z-of_z fits, is) (either_within (2 ^ (c.args.omega + 2)) (int_lt c.args.sign_mask (pos 0)) _ _ c.clip_weight-raised.ensures.bound
    c.clip_weight-lowered.ensures.bound)
