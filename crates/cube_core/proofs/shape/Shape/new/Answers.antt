use Rattle.std.proofs.Common.{◌≡◌, Err}
use Rattle.cube_core.specs.declared.fault.Fault.{Fault}
use Rattle.std.proofs.lemmas.Result.{err_from_is_err_and}
use Rattle.cube_core.proofs.shape.Shape.new.Goals as goal

pub returns-in_err-in_range-2-clause-value : goal.returns-in_err-in_range-2-clause-value
returns-in_err-in_range-2-clause-value c =
    let e : (y : Fault) × (c.from_residual-in_err-in_range-2.result ≡ Err y) × (y ≡ c.in_err-in_range-2.field-0.0) =
    err_from_is_err_and _ c.from_residual-in_err-in_range-2.ensures.1 in
    rw (← c.in_range.ensures, c.in_ok-in_range.was, ← c.in_range-2.ensures, c.in_err-in_range-2.was) (rw e.2 at e.1)
