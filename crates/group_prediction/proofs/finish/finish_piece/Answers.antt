use Rattle.std.proofs.Common.{◌≡◌, ◌+◌, ◌*◌, ◌^◌, length, rules, arith}
use Rattle.band_lanes.specs.Rows.{weights_of}
use Rattle.sample_prediction.specs.Bounds.{AllWithin}
use Rattle.group_prediction.proofs.GroupRuns.{group_predicted}
use Rattle.predict_core.proofs.LaneVectors.{replaced_within}
use Rattle.band_lanes.proofs.Rows.{weights_long}
use Rattle.group_prediction.proofs.finish.finish_piece.Given as given
use Rattle.group_prediction.proofs.finish.finish_piece.Goals as goal
use Rattle.group_prediction.proofs.finish.finish_piece.Goals.{After-take_weights}

inside : (g : given.Over) (c : After-take_weights g) → AllWithin (2 ^ (c.args.settings.now.predictor.omega + 2)) c.take_weights.new.weights
inside g c =
    let few = c.requires.pairs in
    let rows : length c.args.weight_rows.now ≡ 9 = search rules in
    let old : length c.args.weights.now ≡ 18 = search rules in let new : length c.take_weights.new.weights ≡ 18 = search rules in
    replaced_within (2 ^ (c.args.settings.now.predictor.omega + 2)) (2 * g.row.Q) (weights_of g.row.Q c.args.b c.args.weight_rows.now) c.args.weights.now c.take_weights.new.weights
    c.take_weights.ensures.first (weights_long g.row.Q c.args.b c.args.weight_rows.now (omega (arith, few, rows))) (omega (arith, old, new)) c.take_weights.ensures.rest
    c.requires.within c.requires.run.weights_in

pub returns-clause-within : goal.returns-clause-within
returns-clause-within g c = inside g (goal.at.returns-clause-within g c).After-take_weights

pub returns-clause-predicted : goal.returns-clause-predicted
returns-clause-predicted g c begun same followed =
    group_predicted c.args.settings.now c.args.run.now.image c.args.run.now.y c.args.run.now.x c.args.run.now.first c.args.run.now.count (2 * g.row.Q) c.args.weights.now begun
    (weights_of g.row.Q c.args.b c.args.weight_rows.now) c.take_weights.new.weights c.args.parts.now c.write_piece.new.piece c.requires.run.run.first same followed
    c.take_weights.ensures.first c.requires.enough (inside g (goal.at.returns-clause-predicted g c).After-take_weights) c.write_piece.ensures.bound
    c.write_piece.ensures.residuals
