use Rattle.std.proofs.Common.{arith}
use Rattle.group_prediction.proofs.GroupPieces.{held_step, all_held}
use Rattle.group_prediction.proofs.predict.predict_each.Goals as goal

pub loop-k-preserved : goal.loop-k-preserved
loop-k-preserved c =
    let long = c.loop-k.auto.bands in let inside = c.loop-k-test.true in
    held_step c.args.rows.now.image c.args.count c.loop-k.k c.args.bands.now c.loop-k.bands _ c.predict_piece.new.self (omega (arith, long, inside))
    c.loop-k.invariant c.predict_piece.ensures.held

pub returns : goal.returns
returns c =
    let long = c.loop-k.auto.bands in let done = c.loop-k-test.false in
    record { held = all_held c.args.rows.now.image c.args.count c.loop-k.k c.args.bands.now c.loop-k.bands c.loop-k.invariant long done }
