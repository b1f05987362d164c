use Rattle.std.proofs.Common.{ℕ, List, length, length-append, arith, inr, refl, ap}
use Rattle.command_devices.proofs.Devices.{all_read}
use Rattle.command_devices.proofs.reading.read_file.Goals as goal

pub returns-then-len-gt-FILE_LIMIT-clause-refused : goal.returns-then-len-gt-FILE_LIMIT-clause-refused
returns-then-len-gt-FILE_LIMIT-clause-refused g c =
    inr (
      refl,
      inr (λ input e.
          let given = c.in_ok-bytes.ensures.given input e in
          omega (arith, ap (λ (x : List ℕ). length x) given.2, length-append c.in_ok-bytes.bytes.items given.0)),
    )

pub returns-then-len-gt-FILE_LIMIT-clause-unfilled : goal.returns-then-len-gt-FILE_LIMIT-clause-unfilled
returns-then-len-gt-FILE_LIMIT-clause-unfilled g c e = absurd cc

pub returns-in_err-bytes-clause-bounded : goal.returns-in_err-bytes-clause-bounded
returns-in_err-bytes-clause-bounded g c = c.read_up_to.ensures.bounded

pub returns-then-len-gt-FILE_LIMIT-clause-bounded : goal.returns-then-len-gt-FILE_LIMIT-clause-bounded
returns-then-len-gt-FILE_LIMIT-clause-bounded g c = c.read_up_to.ensures.bounded

pub returns-clause-bounded : goal.returns-clause-bounded
returns-clause-bounded g c = c.read_up_to.ensures.bounded

pub returns-clause-short : goal.returns-clause-short
returns-clause-short g c before e =
    let given = c.in_ok-bytes.ensures.given before e in
    (c.in_ok-bytes.bytes.items, given.0, given.1, given.2, omega arith)

pub returns-clause-all : goal.returns-clause-all
returns-clause-all g c = all_read _ _ _ _ c.in_ok-bytes.ensures.given c.in_ok-bytes.ensures.whole (omega arith)

pub returns-clause-limited : goal.returns-clause-limited
returns-clause-limited g c = omega arith
