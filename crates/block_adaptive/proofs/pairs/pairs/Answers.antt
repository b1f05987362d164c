use Rattle.std.proofs.Common.{◌∙◌, arith}
use Rattle.std.proofs.lemmas.Result.{err_from_is_err_and}
use Rattle.block_adaptive.proofs.Twos.{twos_more, code_ends, pair_ends, twos_done}
use Rattle.block_adaptive.proofs.pairs.pairs.Goals as goal

pub returns-in_err-number-clause-read : goal.returns-in_err-number-clause-read
returns-in_err-number-clause-read c = grind (arith, code_ends)

pub returns-in_err-first-clause-read : goal.returns-in_err-first-clause-read
returns-in_err-first-clause-read c =
    let p = err_from_is_err_and c.from_residual-in_err-first.result c.from_residual-in_err-first.ensures.1 in
    let one = rw (c.loop-i.invariant.count, c.from.ensures, c.from-in-loop-i.ensures) at c.in_ok-number.ensures.read in
    rw (p.1, p.2) (pair_ends c.loop-i.invariant.read c.loop-i-test.true one (c.in_err-first.ensures.fault _ _))

pub loop-i-preserved : goal.loop-i-preserved
loop-i-preserved c =
    let one = rw (c.loop-i.invariant.count, c.from.ensures, c.from-in-loop-i.ensures) at c.in_ok-number.ensures.read in
    record {
      read = twos_more c.loop-i.invariant.read (omega arith) c.loop-i-test.true one (c.in_ok-first.ensures.found _ _);
      count = c.in_ok-number.ensures.count ∙ c.loop-i.invariant.count;
    }

pub returns-clause-read : goal.returns-clause-read
returns-clause-read c = twos_done c.loop-i.invariant.read (omega arith) (omega arith)
