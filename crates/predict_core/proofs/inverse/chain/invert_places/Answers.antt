use Rattle.std.proofs.Common.{◌≡◌, ◌+◌, ◌*◌, ◌≤◌, ℕ, false, refl, ap, ◌∙◌, length, SFits, w32, to_z-of_z, rules, arith, length-set}
use Rattle.std.proofs.lemmas.List.{take_all}
use Rattle.cube_core.specs.Image.{Image, IsPlace, put}
use Rattle.header_bits.specs.declared.params.Params.{Params}
use Rattle.sample_prediction.specs.Predictor.{predictor_of}
use Rattle.sample_prediction.specs.Prediction.{weight_vector}
use Rattle.predict_core.proofs.InverseRuns.{beside_none, beside_next, residuals_next}
use Rattle.predict_core.proofs.Inverting.{residual_put, weights_put}
use Rattle.predict_core.proofs.Runs.{later_place}
use Rattle.predict_core.proofs.inverse.chain.invert_places.Given as given
use Rattle.std.proofs.lemmas.Grind.{common_steps}
use Rattle.predict_core.proofs.inverse.chain.invert_places.Goals as goal
use Rattle.predict_core.proofs.inverse.chain.invert_places.Goals.{In-loop-i}

pub loop-i-init : goal.loop-i-init
loop-i-init g c = record {
  beside = beside_none c.args.cube c.args.run.settings.now.band c.args.run.y c.args.run.x;
  residuals = λ p f. refl;
  weights = λ p f. f.weights ∙ ap (weight_vector p c.args.cube c.args.run.settings.now.band) (omega arith);
  bound = c.requires.weights_in;
  steps = λ k le lt. absurd (omega (arith, lt));
  whole = c.prove_is_cube.ensures.whole;
}

-- what is told of a place
place : (g : given.Over) (c : In-loop-i g) → IsPlace c.args.cube.shape c.args.run.settings.now.band c.args.run.y (c.args.run.x + c.loop-i.i)
place g c = record { band = c.requires.place.band; row = c.requires.place.row; column = omega (arith, c.requires.inside, c.loop-i-test.true) }

pub sample_there-sample-requires-clause-residual : goal.sample_there-sample-requires-clause-residual
sample_there-sample-requires-clause-residual g c =
    rw (c.of-rows.ensures, ← c.loop-i.invariant.beside.alike.kind) (c.requires.residuals_in c.loop-i.i c.loop-i-test.true)

pub sample_there-sample-requires-clause-steps : goal.sample_there-sample-requires-clause-steps
sample_there-sample-requires-clause-steps g c =
    let s = c.args.run.settings.now in
    rw (c.of-rows.ensures, ← c.loop-i.invariant.beside.alike.shape, ← c.loop-i.invariant.beside.alike.kind, c.requires.kind, ← s.range.bits_is, c.requires.columns)
    (c.stretch_at-stretch.ensures.steps c.loop-i.i (omega arith) c.stretch_at-stretch.ensures.some)

pub loop-i-preserved : goal.loop-i-preserved
loop-i-preserved g c =
    let kept = c.loop-i.invariant in let d : Image = c.loop-i.cube in let r = c.args.run in
    let s = c.args.run.settings.now in let x : ℕ = c.args.run.x + c.loop-i.i in let v = c.sample_there-sample.result in
    let fits : SFits w32 c.sample_there-sample.result = search rules in
    let is : c.set.new.self ≡ put d s.band r.y x v = simp (to_z-of_z fits) at c.set.ensures in
    let place = rw kept.beside.alike.shape at (place g (goal.at.loop-i-preserved g c).In-loop-i) in
    let later = later_place d.shape.columns r.y x (omega (arith, c.requires.later)) place.column in
    let there = rw c.of-rows.ensures at c.sample_there-sample.ensures.inverse in
    let moved = rw c.of-rows.ensures at c.sample_there-sample.ensures.weights in
    let wide : (p : Params) → s.predictor ≡ predictor_of p → p.column ≡ false → 2 ≤ d.shape.columns =
    λ p e. rw (← kept.beside.alike.shape, c.requires.columns) (rw e at s.wide) in
    let sum : (columns : ℕ) → r.y * columns + r.x + c.loop-i.i ≡ r.y * columns + (r.x + c.loop-i.i) = λ columns. omega arith in
    let next : (columns : ℕ) → r.y * columns + (r.x + (c.loop-i.i + 1)) ≡ r.y * columns + (r.x + c.loop-i.i) + 1 = λ columns. omega arith in rw is
    (record {
      beside = beside_next c.args.cube d s.band r.y r.x c.loop-i.i v place kept.whole kept.beside;
      residuals = λ p f. residuals_next p d s.band r.y r.x c.loop-i.i v r.deltas.now place kept.whole (wide p f.predictor) c.loop-i-test.true
          (kept.residuals p f) (rw (sum d.shape.columns) (residual_put p s.predictor d _ _ _ _ v _ place kept.whole (wide p f.predictor) f.predictor refl
          (kept.weights p f) later _ there));
      weights = λ p f. rw (next d.shape.columns) (weights_put p s.predictor d _ _ _ _ v _ place kept.whole (wide p f.predictor) f.predictor refl
          (kept.weights p f) later _ moved);
      bound = c.sample_there-sample.ensures.bound;
      steps = λ k le lt. c.stretch_at-stretch.ensures.steps k (omega (arith, le)) lt;
      whole = rw length-set kept.whole;
    })

pub returns-clause-beside : goal.returns-clause-beside
returns-clause-beside g c =
    let done : c.loop-i.i ≡ length c.args.run.deltas.now = omega (arith, c.loop-i-test.false, c.loop-i.auto.i-end) in rw (← done) c.loop-i.invariant.beside

pub returns-clause-residuals : goal.returns-clause-residuals
returns-clause-residuals g c p f =
    let kept = c.loop-i.invariant in let done : c.loop-i.i ≡ length c.args.run.deltas.now = omega (arith, c.loop-i-test.false, c.loop-i.auto.i-end) in
    rw kept.beside.alike.shape ((rw done at (kept.residuals p f)) ∙ take_all _ _ (omega arith))

pub stretch_at-stretch-requires-clause-here : goal.stretch_at-stretch-requires-clause-here
stretch_at-stretch-requires-clause-here g c = omega arith

pub set-requires-clause-range : goal.set-requires-clause-range
set-requires-clause-range g c = search rules

pub returns-clause-weights : goal.returns-clause-weights
returns-clause-weights g c = grind (arith, common_steps)
