use Rattle.std.proofs.Common.{◌≡◌, ◌∙◌, length, ap, rules}
use Rattle.coder_pipe.proofs.WeaverState.{along_first}
use Rattle.coder_pipe.proofs.weaver.Weaver.new.Goals as goal

pub invariant_of-result : goal.invariant_of-result
invariant_of-result c =
    let same : c.in_ok-to_vec.field-0.items ≡ c.args.plan.now.deal = search rules in
    along_first c.args.params.now c.in_ok-new.field-0 c.in_ok-to_vec.field-0.items c.in_ok-new.ensures.coded
    (ap length same ∙ c.prove_is_plan.ensures.may.dealt.whole ∙ ap (λ p. p.shape.bands) c.requires)

pub returns-clause-woven : goal.returns-clause-woven
returns-clause-woven c = search rules
