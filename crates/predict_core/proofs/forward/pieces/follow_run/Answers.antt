use Rattle.std.proofs.Common.{◌≡◌, ℕ, ◌≤◌, ◌<◌, ◌+◌, ◌-◌, ◌*◌, SFits, w32, to_z, of_z, to_z-of_z, rules, arith, refl, sym, ◌∙◌, ap}
use Rattle.predict_core.specs.RunChains.{AreStepsThere}
use Rattle.sample_prediction.specs.Weights.{step_exponent}
use Rattle.predict_core.proofs.RunChains.{first_of_run}
use Rattle.predict_core.proofs.Runs.{piece_exponent}
use Rattle.predict_core.proofs.forward.pieces.follow_run.Goals as goal

pub follow_places-requires : goal.follow_places-requires
follow_places-requires g c =
    let kept = c.loop-at.invariant in let few = c.places_alike.ensures.few in
    let run = first_of_run _ _ _ _ _ _ _ _ _ _ _ _ (omega (arith, few)) c.requires.known in
    let later : 0 < c.args.run.now.y + (c.args.run.now.x + c.loop-at.at) = omega (arith, c.requires.later, kept.begun) in
    (omega arith, (run, (omega arith, (later, (steps, kept.bound)))))
  where
    exponent : (i : ℕ) → c.loop-at.at ≤ i → i < c.loop-at.at + c.places_alike.result
        → to_z w32 (of_z w32 c.exponent_at.result) ≡ step_exponent c.args.known.settings.now.predictor c.args.run.now.image.shape.columns c.args.run.now.image.kind.bits
        (c.args.run.now.y * c.args.run.now.image.shape.columns + (c.args.run.now.x + i))
    exponent i l m =
        let s = c.args.known.settings.now in let fits : SFits w32 c.exponent_at.result = search rules in let e = c.requires.known.columns in
        let place : c.args.run.now.y * s.columns + c.args.run.now.x + c.loop-at.at + (i - c.loop-at.at) ≡ c.args.run.now.y * c.args.run.now.image.shape.columns + (c.args.run.now.x + i) =
        rw e (omega (arith, l)) in
        rw (to_z-of_z fits)
        (piece_exponent s.predictor _ s.columns s.range.bits (c.args.run.now.y * s.columns + c.args.run.now.x + c.loop-at.at) _ _
        (c.args.run.now.y * c.args.run.now.image.shape.columns + (c.args.run.now.x + i)) (i - c.loop-at.at)
        (rw (c.y.ensures, c.x.ensures) at c.exponent_at.ensures.value) ((rw (c.y.ensures, c.x.ensures) at c.places_alike.ensures.alike) s.range.bits (i - c.loop-at.at) (omega (arith, l, m))) e
        (ap (λ k. k.bits) c.requires.known.kind ∙ sym s.range.bits_is) place)

    steps : (i : ℕ) → c.loop-at.at ≤ i → i < c.loop-at.at + c.places_alike.result → AreStepsThere c.args.known.settings.now c.args.run.now.image
        c.args.known.settings.now.predictor.omega c.args.known.settings.now.range.bits (to_z w32 (of_z w32 c.exponent_at.result)) c.args.run.now.y (c.args.run.now.x + i)
    steps i l m = record { omega_is = refl; bits_are = refl; exponent_is = exponent i l m }

pub loop-at-preserved : goal.loop-at-preserved
loop-at-preserved g c =
    let kept = c.loop-at.invariant in let next = c.follow_places.ensures in record {
      begun = omega (arith, kept.begun);
      within = omega (arith, c.places_alike.ensures.few);
      followed = next.followed _ _ kept.followed;
      bound = next.bound;
    }

pub returns-clause-followed : goal.returns-clause-followed
returns-clause-followed g c =
    let done : c.loop-at.at ≡ c.args.run.now.count = omega (arith, c.loop-at.invariant.within, c.loop-at-test.false) in rw (← done) c.loop-at.invariant.followed

pub returns-clause-bound : goal.returns-clause-bound
returns-clause-bound g c = c.loop-at.invariant.bound
