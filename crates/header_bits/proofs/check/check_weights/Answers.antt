use Rattle.std.proofs.Common.{rules, SFits, w32, to_z-of_z, pos, get_or, sym, ◌∙◌}
use Rattle.std.proofs.lemmas.Result.{err_from_is_err_and}
use Rattle.header_bits.proofs.Entries.{entry_refused, entry_passed, entries_none_left}
use Rattle.header_bits.proofs.check.check_weights.Goals as goal

pub returns-in_err-check_weight : goal.returns-in_err-check_weight
returns-in_err-check_weight c =
    let p = err_from_is_err_and c.from_residual.result c.from_residual.ensures.1 in
    let fits : SFits w32 (get_or c.args.weights.now c.loop-weight.weight-index (pos 0)) = search rules in
    let bad = simp (to_z-of_z fits) at c.in_err-check_weight.ensures in
    rw (p.1, p.2) (sym (entry_refused _ _ _ _ _ c.loop-weight-test.true c.loop-weight.invariant (sym bad)))

pub loop-weight-preserved : goal.loop-weight-preserved
loop-weight-preserved c =
    let fits : SFits w32 (get_or c.args.weights.now c.loop-weight.weight-index (pos 0)) = search rules in
    let good = simp (to_z-of_z fits) at c.in_ok-check_weight.ensures in
    entry_passed c.args.bits c.loop-weight.weight-index c.args.weights.now _ c.loop-weight-test.true c.loop-weight.invariant (sym good)

pub returns : goal.returns
returns c = sym (entries_none_left c.args.bits c.loop-weight.weight-index c.args.weights.now c.loop-weight-test.false) ∙ c.loop-weight.invariant
