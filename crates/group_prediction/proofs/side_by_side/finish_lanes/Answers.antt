use Rattle.std.proofs.Common.{◌≡◌, get_or, slice_get, Some, arith}
use Rattle.std.proofs.lemmas.Option.{slice_get-get_or}
use Rattle.predict_core.specs.Following.{no_band}
use Rattle.group_prediction.proofs.GroupFilled.{ready_at, run_of}
use Rattle.group_prediction.proofs.GroupPieces.{held_step, next_is, all_held}
use Rattle.group_prediction.proofs.side_by_side.finish_lanes.Goals as goal

pub loop-k-preserved : goal.loop-k-preserved
loop-k-preserved g c =
    let long = c.loop-k.auto.bands in let inside = c.loop-k-test.true in
    rw c.finish_lane.ensures.others
    (held_step c.args.run.now.image c.args.run.now.count c.loop-k.k c.args.bands.now c.loop-k.bands no_band _ (omega (arith, long, inside)) c.loop-k.invariant
    c.finish_lane.ensures.held)

pub finish_lane-requires : goal.finish_lane-requires
finish_lane-requires g c =
    let v = get_or c.args.bands.now c.loop-k.k no_band in let inside = c.loop-k-test.true in let many = c.requires.few.1 in
    let same = next_is _ _ _ _ _ no_band c.loop-k.invariant in
    let there : slice_get c.args.bands.now c.loop-k.k ≡ Some v = slice_get-get_or c.args.bands.now c.loop-k.k no_band inside in
    let told = ready_at _ _ _ c.requires.ready c.loop-k.k v there in
    let predicted = c.requires.predicted c.loop-k.k v there in
    let long = c.loop-k.auto.bands in record {
      pairs = c.requires.pairs;
      lane = omega (arith, inside, many);
      band = omega (arith, long, inside);
      next = rw same told.1;
      run = rw same (run_of v c.args.run.now told.1 c.requires.ready.some c.requires.ready.first);
      bits = c.requires.ready.narrow.bits_in;
      enough = rw (same, predicted.long, told.0) (c.requires.ready.enough v.band);
      predicted = rw same predicted;
    }

pub returns : goal.returns
returns g c =
    let long = c.loop-k.auto.bands in let done = c.loop-k-test.false in
    all_held c.args.run.now.image c.args.run.now.count c.loop-k.k c.args.bands.now c.loop-k.bands c.loop-k.invariant long done
