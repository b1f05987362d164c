use Rattle.std.proofs.Common.{◌≡◌, ◌+◌, ◌*◌, ◌∷◌, ◌++◌, [], ℕ, List, length, arith, sym, ap, subst, ◌∙◌}
use Rattle.speed.specs.Bodies.{AreOfBits}
use Rattle.speed.specs.Numbers.{next_state, state_after, highest, synthetic_residual, synthetic_residuals}
use Rattle.speed.proofs.Draws.{state_after_one, state_after_none, mapped_more, length-mapped, silent_residual, spoken_residual, residual_is, residuals_below}
use Rattle.speed.proofs.synthetic.residuals.Goals as goal
use Rattle.speed.proofs.synthetic.residuals.Goals.{In_ok-push, then-i-eq7, else-i-eq7}

pub loop-i-init : goal.loop-i-init
loop-i-init c = record { state = c.new-generator.ensures ∙ sym state_after_none; value = c.new-residuals.ensures.items }

word_state : (c : In_ok-push) → c.number-quotient.new.self ≡ state_after (2 * c.loop-i.i + 1)
word_state c = c.number-quotient.ensures.state ∙ ap next_state c.loop-i.invariant.state ∙ sym (state_after_one (2 * c.loop-i.i))

few_state : (c : In_ok-push) → c.number.new.self ≡ state_after (2 * c.loop-i.i + 2)
few_state c =
    let e : 2 * c.loop-i.i + 1 + 1 ≡ 2 * c.loop-i.i + 2 = omega arith in
    c.number.ensures.state ∙ ap next_state (word_state c) ∙ sym (state_after_one (2 * c.loop-i.i + 1)) ∙ ap state_after e

number_is : (c : In_ok-push) → c.if-i-eq7.push ≡ synthetic_residual c.loop-i.i
number_is c = (elim c.if-i-eq7.branch [
  | then-i-eq7 w ↦ w.push-is ∙ silent_residual c.loop-i.i c.number-quotient.result c.number.result w.if-i-eq7.true
  | else-i-eq7 w ↦ w.push-is ∙ spoken_residual c.loop-i.i c.number-quotient.result c.number.result (omega (arith, c.number.ensures.bound)) w.if-i-eq7.false
])
    ∙ residual_is c.loop-i.i c.number-quotient.result c.number.result (c.number-quotient.ensures.number ∙ ap (highest 16) (word_state c))
    (c.number.ensures.number ∙ ap (highest 5) (few_state c))

pub loop-i-preserved : goal.loop-i-preserved
loop-i-preserved c =
    let two : 2 * c.loop-i.i + 2 ≡ 2 * (c.loop-i.i + 1) = omega arith in
    record {
      state = few_state c ∙ ap state_after two;
      value = c.in_ok-push.ensures.items
          ∙ ap (λ (ns : List ℕ). ns ++ c.if-i-eq7.push ∷ []) c.loop-i.invariant.value
          ∙ ap (λ (n : ℕ). synthetic_residuals c.loop-i.i ++ n ∷ []) (number_is c)
          ∙ sym (mapped_more synthetic_residual c.loop-i.i);
    }

pub returns-clause-len : goal.returns-clause-len
returns-clause-len c =
    let all : c.loop-i.i ≡ c.args.count = omega arith in
    ap (λ (ns : List ℕ). length ns) c.loop-i.invariant.value ∙ length-mapped synthetic_residual c.loop-i.i ∙ all

pub returns-clause-few : goal.returns-clause-few
returns-clause-few c = subst (AreOfBits 12) (sym c.loop-i.invariant.value) (residuals_below c.loop-i.i)
