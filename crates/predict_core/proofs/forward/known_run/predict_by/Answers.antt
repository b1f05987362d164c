use Rattle.predict_core.proofs.RunChains.{predicted, can_follow}
use Rattle.std.proofs.Common.{◌≤◌, arith}
use Rattle.predict_core.proofs.forward.known_run.predict_by.Goals as goal

pub returns : goal.returns
returns g c =
    let told = c.write_residuals.ensures in
    predicted _ _ _ _ _ _ _ _ _ _ _ c.requires.run.run.first c.follow_run.ensures.followed c.follow_run.ensures.bound told.bound told.residuals told.weights

pub follow_run-requires : goal.follow_run-requires
follow_run-requires g c =
    let r = c.requires.run in let first = r.run.first.most in let some = r.run.some in
    let order : c.args.run.now.first ≤ c.args.run.now.count = omega (arith, first, some) in
    let known = can_follow _ _ _ _ _ _ _ _ _ c.requires.few c.requires.enough c.requires.quads c.requires.register r c.fill_run.ensures in
    (omega arith, (known, (order, (r.run.first.later, r.weights_in))))
