use Rattle.std.proofs.Common.{◌≡◌, ◌+◌, ◌^◌, ◌<◌, ◌≤◌, true, min}
use Rattle.block_adaptive.specs.Options.{cost, quotient_sum}
use Rattle.block_adaptive.proofs.Tried.{LeadsTried}
use Rattle.block_adaptive.proofs.choice.choose_of_large.Given as goal

abbrev pub invariant-loop-i : goal.invariant-loop-i
invariant-loop-i l = record {
  leads : LeadsTried l.set l.block true l.first (min (l.first + l.i) l.splits) l.best;
  least : l.least ≡ cost l.set l.best l.block;
  bound : l.least ≤ 2 ^ 41;
  now : l.i < 3 → l.quotients ≡ quotient_sum (l.first + l.i) l.block;
  next : l.i < 2 → l.next ≡ quotient_sum (l.first + l.i + 1) l.block;
}
