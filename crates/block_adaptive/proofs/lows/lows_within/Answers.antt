use Rattle.std.proofs.Common.{◌≡◌, ◌+◌, ◌-◌, ◌≤◌, ◌∙◌, ℕ, length, sym, arith, rules}
use Rattle.header_bits.proofs.Each.{some_more, some_end, each_done}
use Rattle.block_adaptive.proofs.Takes.{lows_each}
use Rattle.block_adaptive.proofs.lows.lows_within.Goals as goal
use Rattle.block_adaptive.proofs.FourValues.{fours_after}

pub returns-in_err-four_lows-clause-read : goal.returns-in_err-four_lows-clause-read
returns-in_err-four_lows-clause-read c = grind (arith, lows_each, some_end)

pub loop-first-preserved : goal.loop-first-preserved
loop-first-preserved c =
    let was = c.loop-first.invariant in
    let first : ℕ = c.loop-first.first in
    let n : ℕ = first + 4 - first in
    let next : first + n ≡ first + 4 = omega arith in
    let room : first + n ≤ length c.loop-first.values = omega (arith, was.fours, was.long, was.inside, c.loop-first-test.true, c.requires.fours) in
    let long : length c.four_lows.new.four ≡ n = search rules in
    let more = some_more _ was.read room long (sym (lows_each _ _ _ _ _) ∙ rw was.count at c.in_ok-four_lows.ensures.read) in
    let later = fours_after _ _ _ _ _ _ room long was.within in
    record {
      read = rw next at more;
      within = rw next at later;
      count = c.in_ok-four_lows.ensures.count ∙ was.count;
      inside = search rules;
      fours = omega (arith, was.fours);
      long = search rules;
    }

pub returns-clause-read : goal.returns-clause-read
returns-clause-read c = lows_each _ _ _ _ _ ∙ each_done c.loop-first.invariant.read (omega (arith, c.loop-first-test.false))
