use Rattle.std.proofs.Common.{◌<◌, ◌^◌, length, arith, ap₂, ◌∙◌, length-set}
use Rattle.sample_prediction.specs.Residual.{mapped_residual}
use Rattle.predict_core.proofs.RunSteps.{run_next, bound_next, moved_next}
use Rattle.predict_core.proofs.band.Band.forward_each.Goals as goal

pub loop-i-preserved : goal.loop-i-preserved
loop-i-preserved c =
    let kept = c.loop-i.invariant in let inside : c.loop-i.i < length c.loop-i.residuals = omega (arith, kept.long, c.loop-i-test.true) in record {
      moved = moved_next c.loop-i.i c.args.self.now c.loop-i.self c.forward_in.new.self kept.moved c.forward_in.ensures.moved;
      held = c.forward_in.ensures.held ∙ kept.held;
      long = rw length-set kept.long;
      bound = bound_next (2 ^ c.args.rows.now.image.kind.bits) c.loop-i.i c.loop-i.residuals c.forward_in.result inside c.forward_in.ensures.bound kept.bound;
      residuals = λ p f. run_next p c.args.rows.now.image c.args.self.now.band c.args.self.now.t c.loop-i.i c.loop-i.residuals _ inside
          (c.forward_in.ensures.residual p (kept.follows p f) ∙ ap₂ (mapped_residual p c.args.rows.now.image) kept.moved.band kept.moved.t) (kept.residuals p f);
      follows = λ p f. c.forward_in.ensures.follows p (kept.follows p f);
    }
