use Rattle.std.proofs.Common.{◌≡◌, ◌+◌, ◌*◌, ◌-◌, ◌^◌, ◌<◌, ◌≤◌, ℕ, sym, ap, ◌∙◌, subst, arith, to_z-of_z, w32, SFits, rules}
use Rattle.band_lanes.specs.Fours.{column_of}
use Rattle.sample_prediction.specs.Bounds.{AllWithin}
use Rattle.predict_core.specs.RunChains.{AreStepsThere}
use Rattle.group_prediction.proofs.LongLanes.{long_lane_first}
use Rattle.predict_core.proofs.Runs.{piece_exponent}
use Rattle.group_prediction.proofs.long.steps.follow_piece.Goals as goal

pub loop-at-preserved : goal.loop-at-preserved
loop-at-preserved g c =
    let kept = c.loop-at.invariant in let few = c.places_alike.ensures.few in let step = c.new-step.ensures in let s = c.args.settings.now in
    let fits : SFits w32 c.exponent_at.result = search rules in record {
      begun = (let e = kept.begun in omega (arith, e));
      within = (let e = c.loop-at-test.true in let n = c.count-count.ensures in omega (arith, few, e, n));
      weights_in = λ b l. subst (λ n. AllWithin (2 ^ (n + 2)) (column_of (2 * g.row.Q) b c.follow_by.new.weights)) step.omega (c.follow_by.ensures.weights_in b l);
      small = c.follow_by.ensures.small c.args.run.now.first kept.small;
      followed = λ b t d l there predictor kind columns h.
          let wide = there.columns ∙ columns in
          let steps : (i : ℕ) → c.loop-at.at ≤ i → i < c.loop-at.at + c.places_alike.result
          → AreStepsThere t d c.new-step.result.omega c.new-step.result.bits c.new-step.result.exponent c.args.run.now.y (c.args.run.now.x + i)
          = λ i m n. record {
            omega_is = step.omega ∙ sym (ap (λ p. p.omega) predictor);
            bits_are = step.bits ∙ s.range.bits_is ∙ sym (ap (λ k. k.bits) kind) ∙ sym t.range.bits_is;
            exponent_is = (
                let place : c.args.run.now.y * s.columns + c.args.run.now.x + c.loop-at.at + (i - c.loop-at.at) ≡ c.args.run.now.y * d.shape.columns + (c.args.run.now.x + i) =
                rw wide (omega (arith, m)) in
                rw predictor (step.exponent ∙ rw (to_z-of_z fits)
                (piece_exponent s.predictor _ s.columns s.range.bits (c.args.run.now.y * s.columns + c.args.run.now.x + c.loop-at.at) _ _
                (c.args.run.now.y * d.shape.columns + (c.args.run.now.x + i)) (i - c.loop-at.at)
                (rw (c.y.ensures, c.x.ensures) at c.exponent_at.ensures.value) ((rw (c.y.ensures, c.x.ensures) at c.places_alike.ensures.alike) s.range.bits (i - c.loop-at.at) (omega (arith, m, n))) wide
                (ap (λ k. k.bits) (there.kind ∙ kind) ∙ sym s.range.bits_is) place)));
          } in
          let later : 0 < c.args.run.now.y + (c.args.run.now.x + c.loop-at.at) = (let e = c.requires.run.first.later in let f = kept.begun in omega (arith, e, f)) in
          c.follow_by.ensures.followed b t d c.args.run.now.y c.args.run.now.x c.args.run.now.first (column_of (2 * g.row.Q) b c.args.weights.now) l
          (long_lane_first g.row.Q b t d c.args.run.now.y c.args.run.now.x c.args.run.now.count _ c.args.own.now c.args.rows.now (let e = c.loop-at-test.true in let n = c.count-count.ensures in omega (arith, few, e, n)) there)
          later steps (kept.followed b t d l there predictor kind columns h);
    }

pub follow_by-requires-clause-weights_in : goal.follow_by-requires-clause-weights_in
follow_by-requires-clause-weights_in g c b l =
    subst (λ n. AllWithin (2 ^ (n + 2)) (column_of (2 * g.row.Q) b c.loop-at.weights)) (sym c.new-step.ensures.omega) (c.loop-at.invariant.weights_in b l)

pub returns-clause-followed : goal.returns-clause-followed
returns-clause-followed g c b t d l there predictor kind columns h =
    let done : c.loop-at.at ≡ c.args.run.now.count =
    (let within = c.loop-at.invariant.within in let end = c.loop-at-test.false in let n = c.count-count.ensures in omega (arith, within, end, n)) in
    rw (← done) (c.loop-at.invariant.followed b t d l there predictor kind columns h)
