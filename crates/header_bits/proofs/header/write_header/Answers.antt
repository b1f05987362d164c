use Rattle.std.proofs.Common.{rules, length, ap, arith}
use Rattle.header_bits.proofs.header.write_header.Goals as goal

pub returns-clause-header : goal.returns-clause-header
returns-clause-header c = search rules

pub returns-clause-bounded : goal.returns-clause-bounded
returns-clause-bounded c = omega (
  arith,
  c.into_bytes.ensures.memory,
  c.put_header.ensures.bounded,
  c.new-writer.ensures.room,
  ap length c.new-writer.ensures.bits,
  ap length (rw c.new-writer.ensures.bits at c.in_ok-put_header.ensures.appended),
)
