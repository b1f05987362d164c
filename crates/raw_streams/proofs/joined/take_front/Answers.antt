use Rattle.std.proofs.Common.{◌≡◌, ◌+◌, ◌*◌, ℕ, ap, ◌∙◌, arith}
use Rattle.std.proofs.lemmas.Result.{err_from_is_err_and}
use Rattle.cube_core.specs.declared.fault.Fault.TheVariants.{SampleRange}
use Rattle.cube_core.specs.Parts.{unit_of}
use Rattle.raw_streams.proofs.joined.take_front.Goals as goal

-- the index is counted from the first sample of all
pub returns-in_err-row-clause-bad : goal.returns-in_err-row-clause-bad
returns-in_err-row-clause-bad c =
    let p = err_from_is_err_and c.from_residual.result c.from_residual.ensures.1 in
    let (i, e, first) = c.in_err-row.ensures.refused in
    let none : 0 * unit_of c.args.layout.order c.args.row.shape + i ≡ i = omega arith in
    rw (p.1, p.2) (i, e ∙ ap (λ (n : ℕ). SampleRange n) none, first)
