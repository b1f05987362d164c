use Rattle.std.proofs.Common.{length, ap, ◌∙◌, sym}
use Rattle.header_bits.specs.declared.params.Coder.{Coder}
use Rattle.header_bits.specs.declared.params.CountStart.{CountStart}
use Rattle.header_bits.specs.declared.params.Coder.TheVariants.{Sample}
use Rattle.header_bits.specs.Header.{constant_bits}
use Rattle.header_bits.proofs.HeaderTexts.{constants_length}
use Rattle.header_bits.proofs.constant_part.bits.Goals as goal

pub returns-in-Each-clause-value : goal.returns-in-Each-clause-value
returns-in-Each-clause-value c =
    let is = c.in-Sample.is ∙ ap (λ (s : CountStart). Sample c.in-Sample.umax c.in-Sample.gamma_star c.in-Sample.gamma_zero s) c.in-Each.is in
    let size = rw c.as_slice.ensures at c.table_bits.ensures.total in
    size ∙ sym (constants_length c.in-Sample.umax c.in-Sample.gamma_star c.in-Sample.gamma_zero c.in-Each.table)
    ∙ ap (λ (x : Coder). length (constant_bits x)) (sym is)
