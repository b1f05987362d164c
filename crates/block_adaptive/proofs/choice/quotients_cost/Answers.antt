use Rattle.std.proofs.Common.{get_or, arith}
use Rattle.std.proofs.lemmas.Nat.{shr_le}
use Rattle.block_adaptive.proofs.Costs.{quotients_more, quotients_done}
use Rattle.block_adaptive.proofs.choice.quotients_cost.Goals as goal

pub loop-value-preserved : goal.loop-value-preserved
loop-value-preserved c =
    let less = shr_le (get_or c.args.block.now c.loop-value.value-index 0) c.args.k in
    record {
      so_far = rw c.from.ensures (quotients_more _ _ _ _ _ c.loop-value-test.true c.loop-value.invariant.so_far);
      bound = omega (arith, c.from.ensures, c.loop-value.invariant.bound, c.type_inv.block c.loop-value.value-index, less);
    }

pub returns-clause-value : goal.returns-clause-value
returns-clause-value c = rw c.from-2.ensures (quotients_done _ _ _ _ _ c.loop-value-test.false c.loop-value.invariant.so_far)
