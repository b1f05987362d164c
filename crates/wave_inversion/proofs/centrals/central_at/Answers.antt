use Rattle.std.proofs.Common.{◌≡◌, ◌∙◌, ◌+◌, ◌-◌, ◌<◌, ℕ, refl, arith}
use Rattle.lanes.specs.Lanes.{lane}
use Rattle.wave_inversion.specs.Wave.{sum_at}
use Rattle.wave_inversion.proofs.WaveParts.{difference_below}
use Rattle.wave_inversion.proofs.centrals.central_at.Goals as goal
use Rattle.wave_inversion.proofs.centrals.central_at.Goals.{After-local_sums-sums}

sum_is : (c : After-local_sums-sums) (b : ℕ) → b < 8
    → lane c.local_sums-sums.result b ≡ sum_at c.args.form.column c.args.numbers.now c.args.above.now c.args.i b
sum_is c b l = let a = c.around_at-around.ensures in c.local_sums-sums.ensures.value b l ∙ rw (a.west, a.north_west, a.north, a.north_east) refl

pub returns-clause-value : goal.returns-clause-value
returns-clause-value c b l = c.differences.ensures b l ∙ rw (sum_is (goal.at.returns-clause-value c).After-local_sums-sums b l) refl

pub returns-clause-below : goal.returns-clause-below
returns-clause-below c b l =
    let i = c.requires.row in let n = c.requires.numbers_in in let a = c.requires.above_in in
    rw (c.differences.ensures b l, sum_is (goal.at.returns-clause-below c).After-local_sums-sums b l)
    (difference_below c.args.form.greatest _ _ _ _ _ c.args.form.column c.args.form.step.bits c.args.form.greatest_is
    (n c.args.i b (omega (arith, i.1)) l) (n (c.args.i - 1) b (omega (arith, i.1)) l) (a (c.args.i - 1) b (omega (arith, i.1)) l)
    (a c.args.i b (omega (arith, i.1)) l) (a (c.args.i + 1) b (omega (arith, i.1)) l))
