use Rattle.std.proofs.Common.{arith}
use Rattle.block_adaptive.proofs.Costs.{pairs_step, pairs_last, pairs_end}
use Rattle.block_adaptive.proofs.choice.pairs_cost.Goals as goal

pub returns-in_default-split_first-clause-value : goal.returns-in_default-split_first-clause-value
returns-in_default-split_first-clause-value c =
    rw c.pair_cost.ensures.value (pairs_last _ _ _ _ _ c.in-Some.ensures.cases.0 c.in_default-split_first.ensures.cases c.loop-first.invariant.so_far)

pub loop-first-preserved : goal.loop-first-preserved
loop-first-preserved c = record {
  so_far = rw c.pair_cost-total.ensures.value (pairs_step _ _ _ _ _ _ _ c.in-Some.ensures.cases.0 c.in-Some-split_first.ensures.cases.0
      c.loop-first.invariant.so_far);
  bound = omega (arith, c.in-Some.ensures.cases.1, c.in-Some-split_first.ensures.cases.1, c.loop-first.invariant.bound, c.pair_cost-total.ensures.bound);
}

pub returns-clause-value : goal.returns-clause-value
returns-clause-value c = pairs_end _ _ _ c.in_default.ensures.cases c.loop-first.invariant.so_far
