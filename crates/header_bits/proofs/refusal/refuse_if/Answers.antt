use Rattle.std.proofs.Common.{refl}
use Rattle.header_bits.proofs.refusal.refuse_if.Goals as goal

pub returns-then-condition : goal.returns-then-condition
returns-then-condition c = rw c.if-condition.true refl

pub returns-else-condition : goal.returns-else-condition
returns-else-condition c = rw c.if-condition.false refl
