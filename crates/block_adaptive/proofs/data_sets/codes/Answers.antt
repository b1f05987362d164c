use Rattle.std.proofs.Common.{◌∙◌, arith}
use Rattle.header_bits.proofs.Each.{each_more, each_done}
use Rattle.block_adaptive.proofs.Looking.{code_read}
use Rattle.block_adaptive.proofs.Takes.{quotients_each}
use Rattle.block_adaptive.proofs.data_sets.codes.Goals as goal
use Rattle.block_adaptive.proofs.data_sets.codes.Goals.{in-Some, in_default+in_ok-quotient}
use Rattle.block_adaptive.proofs.FourValues.{bound_more, all_bound}

pub loop-value-preserved : goal.loop-value-preserved
loop-value-preserved c =
    let was = c.loop-value.invariant in
    elim c.match-code_ahead.branch [
      | in-Some w ↦
          (let uses = w.in-Some.ensures.2 _ was.ahead in
          rw (w.reader-is, w.values-is, w.bound-is, w.ahead-is) (record {
            ahead = uses.ahead;
            word = w.in-Some.ensures.1;
            bound = bound_more _ _ _ _ (omega arith) was.bound;
            read = each_more was.read (omega arith) (code_read _ 65535 _ _ _ _ (omega (arith, w.in-Some.ensures.0)) uses);
            count = was.count;
          }))
      | in_default+in_ok-quotient w ↦
          (let one = rw was.count at w.in_ok-quotient.ensures.found.2 in
          rw (w.reader-is, w.values-is, w.bound-is, w.ahead-is) (record {
            ahead = w.in_ok-quotient.ensures.found.1;
            word = w.in_ok-quotient.ensures.found.0;
            bound = bound_more _ _ _ _ (omega arith) was.bound;
            read = each_more was.read (omega arith) one;
            count = w.in_ok-quotient.ensures.count ∙ was.count;
          }))
    ]

pub returns-clause-read : goal.returns-clause-read
returns-clause-read c = grind (arith, all_bound, each_done, quotients_each)
