use Rattle.std.proofs.Common.{arith, ap}
use Rattle.group_prediction.proofs.LongLanes.{long_weights_held}
use Rattle.group_prediction.proofs.long.weights.put_band.Goals as goal

pub returns-clause-held : goal.returns-clause-held
returns-clause-held g c =
    let n = c.band.inside.settings.count in let few = c.band.inside.settings.few in let long = c.put_weights.ensures.long in
    long_weights_held g.row.Q c.args.b c.args.band.now n c.band.inside.weights _ (ap (λ v. v.weights) c.band.view_is) (omega (arith, few, long))
    (rw (← c.band.view_is) c.band.inside.settings.count_is)
    (rw (← c.band.view_is) c.band.invariant.bounded) c.put_weights.ensures.held
