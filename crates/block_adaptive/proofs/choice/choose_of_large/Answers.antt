use Rattle.std.proofs.Common.{◌≡◌, ◌+◌, ◌-◌, ◌*◌, ◌%◌, ◌^◌, true, min, arith}
use Rattle.std.proofs.lemmas.Nat.{one_shl}
use Rattle.block_adaptive.specs.Options.{splits, width}
use Rattle.block_adaptive.proofs.Sums.{plain_length, split_is}
use Rattle.block_adaptive.proofs.Bounded.{ended}
use Rattle.block_adaptive.proofs.choice.choose_of_large.Goals as goal
use Rattle.block_adaptive.proofs.choice.choose_of_large.Goals.{then-k-splits+then-cost-least, then-k-splits+else-cost-least, else-k-splits}

pub returns-clause-chosen : goal.returns-clause-chosen
returns-clause-chosen c =
    let shifted = one_shl c.identifier_width-width.result 32 (omega (arith, c.identifier_width-width.ensures.most)) in
    let wide : 2 ^ c.identifier_width-width.result ≡ 2 ^ width c.args.set.now = (λ i. 2 ^ c.identifier_width-width.ensures.value i) in
    let done : c.loop-i.i ≡ 3 = omega (arith, c.loop-i.auto.i-end, c.loop-i-test.false) in
    let all : 1 * 2 ^ c.identifier_width-width.result % 4294967296 - 2 ≡ splits c.args.set.now = omega arith in
    ended c.args.set.now c.args.block.now c.args.total c.first_split-first.result (min (c.first_split-first.result + 3) (splits c.args.set.now)) true c.loop-i.best (record {
      whole = omega (arith, plain_length c.args.block.now, c.requires.total);
      within = rw all at c.first_split-first.ensures.within;
      falling = rw c.from.ensures at c.first_split-first.ensures.falls;
      rising = rw (all, c.from.ensures) at c.first_split-first.ensures.rises;
      second = λ e. (omega (arith, c.requires.some), omega (arith, plain_length c.args.block.now, c.requires.total, c.requires.large));
    }) (rw (done, all) at c.loop-i.invariant.leads) (omega arith) (λ lt. omega arith)

pub loop-i-preserved : goal.loop-i-preserved
loop-i-preserved c = grind (arith, split_is)
