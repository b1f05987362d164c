use Rattle.std.proofs.Common.{rules, arith}
use Rattle.file_format.proofs.FileLaws.{ones_fail, zeros_pass}
use Rattle.file_decoding.proofs.decode.test_fill.Goals as goal

pub returns-then-bits-from : goal.returns-then-bits-from
returns-then-bits-from c = search rules

pub returns-in-Ok : goal.returns-in-Ok
returns-in-Ok c = grind (arith, ones_fail)

pub returns-in-Err : goal.returns-in-Err
returns-in-Err c = grind (arith, zeros_pass)
