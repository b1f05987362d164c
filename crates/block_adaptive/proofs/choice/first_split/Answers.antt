use Rattle.std.proofs.Common.{◌≡◌, ◌≤◌, ◌+◌, arith}
use Rattle.block_adaptive.proofs.Powers.{near_falls, near_rises}
use Rattle.block_adaptive.proofs.choice.first_split.Goals as goal

pub returns-then-len-near-clause-rises : goal.returns-then-len-near-clause-rises
returns-then-len-near-clause-rises c = λ more.
    let near : c.ilog2.result ≤ c.min-near.result + (c.ilog2-2.result + 2) = omega (arith, more, c.min-near.ensures, c.saturating_sub.ensures) in
    let rises = near_rises c.args.sum c.args.len c.ilog2.result c.ilog2-2.result c.min-near.result c.ilog2.ensures.next_power_gt c.ilog2-2.ensures.power_le near in
    let size : c.min-near.result + 3 ≡ c.min-near.result + 1 + 2 = omega arith in
    rw size at rises

pub returns-else-near-splits-clause-falls : goal.returns-else-near-splits-clause-falls
returns-else-near-splits-clause-falls c = λ some.
    near_falls _ _ _ _ _ c.ilog2.ensures.power_le c.ilog2-2.ensures.next_power_gt (omega (arith, c.min-near.ensures, c.saturating_sub.ensures))
