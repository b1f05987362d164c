use Rattle.std.proofs.Common.{◌≡◌, length, take, SFits, to_z-of_z, w32, arith, rules, length-set, sym}
use Rattle.std.proofs.lemmas.List.{length-take-le}
use Rattle.sample_prediction.proofs.Filling.{filled_next, filled_none}
use Rattle.sample_prediction.proofs.Products.{step_bound}
use Rattle.sample_prediction.proofs.differences.fill_spectral.Goals as goal

pub loop-i-init : goal.loop-i-init
loop-i-init g c = record {
  filled = filled_none c.args.predictor.now c.args.rows.now.image c.args.z c.args.y c.args.x c.args.first c.args.out.now c.requires.clear;
  bound = c.requires.small;
  long = c.told-out;
}

pub loop-i-preserved : goal.loop-i-preserved
loop-i-preserved g c =
    let fits : SFits w32 c.central.result = search rules in
    let heads : c.args.first ≡ length (take c.args.first c.args.out.now) = sym (length-take-le c.args.first c.args.out.now (omega arith)) in rw (to_z-of_z fits)
    (record {
      filled = filled_next _ _ _ _ _ _ _ (take c.args.first c.args.out.now) _ _ heads (omega arith) c.central.ensures.value c.loop-i.invariant.filled;
      bound = step_bound 262144 c.loop-i.out _ c.central.result c.loop-i.invariant.bound c.central.ensures.bound;
      long = rw length-set c.loop-i.invariant.long;
    })
