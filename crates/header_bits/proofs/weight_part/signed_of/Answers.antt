use Rattle.std.proofs.Common.{rules, arith}
use Rattle.header_bits.proofs.weight_part.signed_of.Goals as goal

pub returns-then-number-power_of_two : goal.returns-then-number-power_of_two
returns-then-number-power_of_two c = search (rules, arith)
