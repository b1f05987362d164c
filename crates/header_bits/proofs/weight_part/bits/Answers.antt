use Rattle.std.proofs.Common.{length, ap, ◌∙◌, sym}
use Rattle.header_bits.specs.declared.params.WeightStart.{WeightStart}
use Rattle.header_bits.specs.Header.{weight_bits}
use Rattle.header_bits.proofs.HeaderTexts.{weights_length}
use Rattle.header_bits.proofs.TableWriting.{weights_lawful}
use Rattle.header_bits.proofs.weight_part.bits.Goals as goal

pub table_bits-requires-clause-count : goal.table_bits-requires-clause-count
table_bits-requires-clause-count c = rw c.as_slice.ensures (weights_lawful c.args.params.now c.in-Table.q c.in-Table.values c.requires c.in-Table.is).count

pub returns-in-Table-clause-value : goal.returns-in-Table-clause-value
returns-in-Table-clause-value c =
    let size = rw c.as_slice.ensures at c.table_bits.ensures.total in
    size ∙ sym (weights_length c.in-Table.q c.in-Table.values) ∙ ap (λ (s : WeightStart). length (weight_bits s)) (sym c.in-Table.is)
