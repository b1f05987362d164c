use Rattle.std.proofs.Common.{refl}
use Rattle.std.proofs.lemmas.Result.{err_from_is_err_and}
use Rattle.coder_pipe.specs.Plans.{plan_fault}
use Rattle.coder_pipe.proofs.plan.test_plan.Goals as goal

pub returns-in_err-in_range : goal.returns-in_err-in_range
unfolding plan_fault
returns-in_err-in_range c =
    let p = err_from_is_err_and c.from_residual.result c.from_residual.ensures.1 in
    rw (p.1, p.2, ← c.in_err-in_range.ensures) refl

pub returns-in_err-in_range-2 : goal.returns-in_err-in_range-2
unfolding plan_fault
returns-in_err-in_range-2 c =
    let p = err_from_is_err_and c.from_residual-in_err-in_range-2.result c.from_residual-in_err-in_range-2.ensures.1 in
    rw (p.1, p.2, ← c.in_ok-in_range.ensures, ← c.in_err-in_range-2.ensures) refl

pub returns-in_err-test_owners : goal.returns-in_err-test_owners
unfolding plan_fault
returns-in_err-test_owners c =
    let p = err_from_is_err_and c.from_residual-in_err-test_owners.result c.from_residual-in_err-test_owners.ensures.1 in
    rw (p.1, p.2, ← c.in_ok-in_range.ensures, ← c.in_ok-in_range-2.ensures, ← c.in_err-test_owners.ensures) refl

pub returns : goal.returns
unfolding plan_fault
returns c = rw (← c.in_ok-in_range.ensures, ← c.in_ok-in_range-2.ensures, ← c.in_ok-test_owners.ensures) c.test_length.ensures
