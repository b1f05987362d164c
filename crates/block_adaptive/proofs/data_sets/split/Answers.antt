use Rattle.std.proofs.Common.{ℕ, ◌/◌, ◌^◌, arith}
use Rattle.block_adaptive.proofs.Fours.{split_none}
use Rattle.block_adaptive.proofs.Takes.{quotients_takes}
use Rattle.block_adaptive.proofs.data_sets.split.Goals as goal
use Rattle.block_adaptive.proofs.Powers.{greatest_shifted}
use Rattle.block_adaptive.proofs.FourValues.{all_within}

pub lows_within-requires-clause-within : goal.lows_within-requires-clause-within
lows_within-requires-clause-within c =
    let greatest : ℕ = c.args.most / 2 ^ c.args.k in
    let takes = quotients_takes _ _ _ _ _ c.in_ok-quotients.ensures.read in
    let small = greatest_shifted c.args.most c.args.k (omega arith) (omega (arith, c.requires.depth)) in
    all_within _ _ _ _ (rw (c.from.ensures, c.from-2.ensures, small) at c.if-from-k.true) takes.all

pub returns-then-k-eq0-clause-read : goal.returns-then-k-eq0-clause-read
returns-then-k-eq0-clause-read c = split_none _ _ _ _ _ _ _ c.if-k-eq0.true c.in_ok-quotients.ensures.read
