use Rattle.std.proofs.Common.{rules, SFits, w32, to_z-of_z, ◌≡◌, ◌+◌, ◌∷◌, ◌++◌, [], ℤ, ◌-ℤ◌, pos, List, sym, ap, ◌∙◌}
use Rattle.speed.specs.Numbers.{next_state, state_after, highest, synthetic_weight, synthetic_weights}
use Rattle.speed.proofs.Draws.{state_after_one, state_after_none, mapped_more}
use Rattle.speed.proofs.predictor.synthetic_weights.Goals as goal
use Rattle.speed.proofs.predictor.synthetic_weights.Goals.{In_ok-push}

pub loop-i-init : goal.loop-i-init
loop-i-init c = record { state = c.new-generator.ensures ∙ sym state_after_none; value = c.new-weights.ensures.items }

state_is : (c : In_ok-push) → c.number.new.self ≡ state_after (c.loop-i._i + 1)
state_is c = c.number.ensures.state ∙ ap next_state c.loop-i.invariant.state ∙ sym (state_after_one c.loop-i._i)

weight_is : (c : In_ok-push) → c.from.result -ℤ pos 8192 ≡ synthetic_weight c.loop-i._i
unfolding synthetic_weight
weight_is c = ap (λ (n : ℤ). n -ℤ pos 8192) (c.from.ensures ∙ ap (λ n. pos n) (c.number.ensures.number ∙ ap (highest 14) (state_is c)))

pub loop-i-preserved : goal.loop-i-preserved
loop-i-preserved c =
    let from_fits : SFits w32 c.from.result = search rules in
    let fits : SFits w32 (c.from.result -ℤ pos 8192) = search rules in
    record {
      state = state_is c;
      value = (simp (to_z-of_z from_fits, to_z-of_z fits) at c.in_ok-push.ensures.items)
          ∙ ap (λ (ws : List ℤ). ws ++ (c.from.result -ℤ pos 8192) ∷ []) c.loop-i.invariant.value
          ∙ ap (λ (w : ℤ). synthetic_weights c.loop-i._i ++ w ∷ []) (weight_is c)
          ∙ sym (mapped_more synthetic_weight c.loop-i._i);
    }
