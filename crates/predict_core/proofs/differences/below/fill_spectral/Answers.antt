use Rattle.std.proofs.Common.{◌+◌, ◌<◌, length, arith, length-set, rules}
use Rattle.predict_core.specs.Rooms.{components_at}
use Rattle.predict_core.proofs.Quads.{quads_begun, quads_next}
use Rattle.predict_core.proofs.differences.below.fill_spectral.Goals as goal

pub loop-q-init : goal.loop-q-init
loop-q-init g c =
    let s = c.args.settings.now in record {
      done = λ i l h. quads_begun s.predictor _ s.band _ (c.args.run.now.x + i) _ _ (components_at _ _ i);
      long = c.told-quads;
    }

pub loop-q-preserved : goal.loop-q-preserved
loop-q-preserved g c =
    let s = c.args.settings.now in let enough = c.requires.enough in
    let inside : c.loop-q.q < length c.loop-q.quads = omega (arith, c.loop-q.invariant.long, c.loop-q-test.true, enough) in record {
      done = λ i l h. quads_next s.predictor _ s.band _ (c.args.run.now.x + i) _ _ _ i (components_at _ _ i) _ _ c.loop-q.auto.q inside (c.loop-q.invariant.done i l h)
          (c.fill_lower.ensures i l h);
      long = rw length-set c.loop-q.invariant.long;
    }

pub returns : goal.returns
returns g c = search rules
