use Rattle.std.proofs.Common.{arith}
use Rattle.header_bits.proofs.TableNumbers.{total_table}
use Rattle.header_bits.proofs.table_layout.table_bits.Goals as goal

pub returns-clause-total : goal.returns-clause-total
returns-clause-total c =
    let fill = rw c.number_bits-numbers.ensures.value at c.fill_of.ensures.value in
    omega (arith, total_table c.args.count c.args.bits, c.number_bits-numbers.ensures.value, fill, c.from.ensures)
