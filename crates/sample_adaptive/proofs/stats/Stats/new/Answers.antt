use Rattle.std.proofs.Common.{◌∙◌}
use Rattle.sample_adaptive.proofs.Taking.{settings_of, new_has_taken}
use Rattle.sample_adaptive.proofs.Tracking.{statistics_count}
use Rattle.sample_adaptive.proofs.stats.Stats.new.Goals as goal

pub returns-clause-taken : goal.returns-clause-taken
returns-clause-taken c =
    let made = c.in_ok-bands-in-Sample.ensures in
    rw (
      settings_of c.args.params.now c.in-Sample.umax c.in-Sample.gamma_star c.in-Sample.gamma_zero c.in-Sample.start c.in-Sample.is,
      c.bits.ensures.value,
      c.of.ensures,
    )
    (new_has_taken _ _ _ (statistics_count _ ∙ made.count ∙ c.bands.ensures.value) (rw c.bands.ensures.value at made.first))
