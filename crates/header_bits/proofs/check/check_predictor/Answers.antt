use Rattle.std.proofs.Common.{◌≡◌, ◌≤◌, Err, OnOk}
use Rattle.std.proofs.lemmas.Result.{err_from_is_err_and}
use Rattle.cube_core.specs.declared.fault.Fault.{Fault}
use Rattle.cube_core.specs.Steps.{Test}
use Rattle.cube_core.specs.Kind.{IsKind}
use Rattle.header_bits.specs.declared.params.Params.{Params}
use Rattle.header_bits.specs.Lawful.{predictor_fault}
use Rattle.header_bits.proofs.Tests.{passed, refused}
use Rattle.header_bits.proofs.check.check_predictor.Goals as goal

told : (p : Params) {r : Test} {f : Fault} → ((e : Fault) × (r ≡ Err e) × (e ≡ f)) → Err f ≡ predictor_fault p
    → record { fault : r ≡ predictor_fault p; kind : OnOk r (IsKind p.kind); previous : OnOk r (p.previous ≤ 15); omega : OnOk r (p.omega ≤ 19) }
told p e fault = record { fault = rw (e.1, e.2) fault; kind = rw e.1 tt; previous = rw e.1 tt; omega = rw e.1 tt }

pub returns-in_err-in_range : goal.returns-in_err-in_range
returns-in_err-in_range c =
    told c.args.params.now (err_from_is_err_and c.from_residual.result c.from_residual.ensures.1) (refused _ c.in_err-in_range.ensures)

pub returns-in_err-disagree_if : goal.returns-in_err-disagree_if
returns-in_err-disagree_if c =
    told c.args.params.now (err_from_is_err_and c.from_residual-in_err-disagree_if.result c.from_residual-in_err-disagree_if.ensures.1)
    (passed c.in_ok-in_range.ensures (refused _ (rw c.columns-one_column.ensures.value at c.in_err-disagree_if.ensures)))

pub returns-in_err-disagree_if-2 : goal.returns-in_err-disagree_if-2
returns-in_err-disagree_if-2 c =
    told c.args.params.now (err_from_is_err_and c.from_residual-in_err-disagree_if-2.result c.from_residual-in_err-disagree_if-2.ensures.1)
    (passed c.in_ok-in_range.ensures (passed (rw c.columns-one_column.ensures.value at c.in_ok-disagree_if.ensures)
    (refused _ (rw c.columns-one_column.ensures.value at c.in_err-disagree_if-2.ensures))))

pub returns-clause-fault : goal.returns-clause-fault
returns-clause-fault c = passed c.in_ok-in_range.ensures (passed (rw c.columns-one_column.ensures.value at c.in_ok-disagree_if.ensures)
    (passed (rw c.columns-one_column.ensures.value at c.in_ok-disagree_if-2.ensures) c.check_register.ensures.fault))
