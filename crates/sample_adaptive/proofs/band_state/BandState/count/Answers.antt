use Rattle.std.proofs.Common.{rules, arith}
use Rattle.sample_adaptive.specs.Statistics.{next_statistics, AreStatistics}
use Rattle.sample_adaptive.proofs.Counting.{halved_in_range}
use Rattle.sample_adaptive.proofs.band_state.BandState.count.Goals as goal

pub returns-clause-state : goal.returns-clause-state
returns-clause-state c =
    let rescaling = c.args.settings.rescaling in
    let halved : AreStatistics rescaling.size c.halved-self.result =
    rw c.halved-self.ensures (halved_in_range rescaling.size c.args.self.now.statistics c.args.residual rescaling.size_in.0 c.requires.statistics (omega arith)
    (omega (arith, c.if-self-settings.false, rescaling.greatest_is))) in
    record {
      statistics = halved;
      k = c.requires.k;
    }

pub returns-then-self-settings-clause-value : goal.returns-then-self-settings-clause-value
unfolding next_statistics
returns-then-self-settings-clause-value c = search rules

pub returns-then-self-settings-clause-state : goal.returns-then-self-settings-clause-state
unfolding next_statistics
returns-then-self-settings-clause-state c = search rules
