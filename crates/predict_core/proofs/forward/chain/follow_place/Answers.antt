use Rattle.std.proofs.Common.{◌≡◌, pos, slice_index_or, unsigned_abs, ◌≤◌, ◌<◌, ◌+◌, ◌-◌, ◌*◌, length, take, SFits, w32, to_z-of_z, rules}
use Rattle.std.proofs.Common.{arith, sym, ◌∙◌}
use Rattle.header_bits.specs.declared.params.Params.{Params}
use Rattle.sample_prediction.specs.Chain.{AreWeightsAt, scaled_by_difference}
use Rattle.sample_prediction.specs.Differences.{difference_vector}
use Rattle.sample_prediction.specs.LocalSum.{local_sum}
use Rattle.sample_prediction.specs.Prediction.{scaled_prediction}
use Rattle.predict_core.specs.Rooms.{components_at}
use Rattle.sample_prediction.proofs.Padding.{vector_length}
use Rattle.predict_core.proofs.Runs.{gathered_is, written_place, weights_next, part_is}
use Rattle.predict_core.proofs.forward.chain.follow_place.Goals as goal

pub follow_at-requires : goal.follow_at-requires
follow_at-requires g c =
    let s = c.args.known.settings.now in let run = c.requires.known in let steps = c.requires.steps in let later = c.requires.later in
    let sum_fits : SFits w32 (slice_index_or c.args.known.sums.now c.args.i (pos 0)) = search rules in
    let own_fits : SFits w32 (slice_index_or c.args.known.own.now c.args.i (pos 0)) = search rules in
    let e = rw (← run.needed) at (run.room.vector c.args.i (omega arith) later) in
    let gathered = gathered_is (difference_vector s.predictor _ s.band _ (c.args.run.now.x + c.args.i)) (components_at g.row.Q c.args.known.quads.now c.args.i) _ s.count
    (4 * g.row.Q - s.count) (vector_length s.predictor _ s.band _ (c.args.run.now.x + c.args.i) ∙ sym s.count_is) s.few e c.differences_at-differences.ensures in
    record {
      few = run.few;
      enough = run.enough;
      register = run.register;
      place = record { band = run.place.band; row = run.place.row; column = omega (arith, run.inside) };
      columns = run.columns;
      kind = run.kind;
      later = later;
      omega = steps.omega_is;
      bits = steps.bits_are;
      exponent = steps.exponent_is;
      sum_is = rw (to_z-of_z sum_fits) (run.room.sum c.args.i (omega arith) later);
      sum_in = rw (to_z-of_z sum_fits) (run.room.sum_least c.args.i (omega arith) later, run.room.sum_most c.args.i (omega arith) later);
      own_is = rw (to_z-of_z own_fits) (run.room.central c.args.i (omega arith) later);
      weights_in = rw steps.omega_is c.requires.weights_in;
      differences_are = gathered;
    }

pub returns-clause-followed : goal.returns-clause-followed
returns-clause-followed g c first begun h =
    let s = c.args.known.settings.now in let fits : SFits w32 c.follow_at.result = search rules in
    let within : c.args.i < length c.args.parts.now = search rules in
    let column : c.args.run.now.x + c.args.i < c.args.run.now.image.shape.columns = omega (arith, c.requires.known.inside) in
    let there : (p : Params) → AreWeightsAt p s.predictor c.args.run.now.image s.band
    (c.args.run.now.y * c.args.run.now.image.shape.columns + (c.args.run.now.x + first)) (take s.count begun) → AreWeightsAt p s.predictor c.args.run.now.image
    s.band (c.args.run.now.y * c.args.run.now.image.shape.columns + (c.args.run.now.x + c.args.i)) (take s.count c.args.weights.now) =
    λ p f. record { predictor = f.predictor; weights = h.weights p f } in
    rw (to_z-of_z fits)
    (record {
      weights = λ p f. weights_next p s.predictor _ s.band _ _ _ (take s.count c.args.weights.now) c.requires.later column (there p f)
          (take s.count c.follow_at.new.weights) c.follow_at.ensures.weights;
      predicted = λ p f. written_place (λ k v. scaled_prediction p c.args.run.now.image s.band (c.args.run.now.y * c.args.run.now.image.shape.columns + (c.args.run.now.x + k))
          ≡ scaled_by_difference c.args.run.now.image.kind v (local_sum s.predictor c.args.run.now.image s.band c.args.run.now.y (c.args.run.now.x + k))) _ _ _ _ within
          (part_is p s.predictor _ s.band _ _ _ (take s.count c.args.weights.now) c.requires.later column (there p f) _ c.follow_at.ensures.scaled)
          (h.predicted p f);
      small = written_place (λ k v. unsigned_abs v ≤ 18874368) _ _ _ _ within c.follow_at.ensures.small h.small;
    })

pub returns-clause-bound : goal.returns-clause-bound
returns-clause-bound g c = rw c.requires.steps.omega_is at c.follow_at.ensures.bound
