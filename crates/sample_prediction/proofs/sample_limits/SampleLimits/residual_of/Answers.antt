use Rattle.std.proofs.Common.{◌≡◌, SFits, w32, to_z-of_z, rules}
use Rattle.std.proofs.lemmas.Int.{ints}
use Rattle.sample_prediction.specs.Residual.{mapped}
use Rattle.sample_prediction.proofs.OneSample.{one_sample_lem}
use Rattle.sample_prediction.proofs.sample_limits.SampleLimits.residual_of.Goals as goal
use Rattle.sample_prediction.proofs.sample_limits.SampleLimits.residual_of.Goals.{After-map_between}

value : (c : After-map_between) → c.map_between.result ≡ mapped c.args.self.now.kind c.args.scaled c.args.sample
value c =
    let r = c.args.self.now in let low_fits : SFits w32 r.smin = (let h = r.low in search (rules, ints)) in
    let high_fits : SFits w32 r.smax = (let h = r.high in search (rules, ints)) in rw (← r.smin_is, ← r.smax_is)
    (simp (to_z-of_z low_fits, to_z-of_z high_fits, to_z-of_z c.ranges.scaled, to_z-of_z c.ranges.sample) at c.map_between.ensures)

pub returns-clause-value : goal.returns-clause-value
returns-clause-value c = value (goal.at.returns-clause-value c).After-map_between

pub returns-clause-bound : goal.returns-clause-bound
returns-clause-bound c =
    rw (value (goal.at.returns-clause-bound c).After-map_between)
    ((one_sample_lem c.args.self.now.kind c.args.scaled c.args.self.now.lawful c.requires.scaled).0 c.args.sample c.requires.sample)
