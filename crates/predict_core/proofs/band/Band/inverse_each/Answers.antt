use Rattle.std.proofs.Common.{◌≡◌, ◌+◌, ◌≤◌, false, refl, ap, ◌∙◌, length, arith, length-set}
use Rattle.std.proofs.lemmas.List.{take_all}
use Rattle.cube_core.specs.Image.{Image, IsPlace, put}
use Rattle.header_bits.specs.declared.params.Params.{Params}
use Rattle.predict_core.specs.Following.{Follows}
use Rattle.predict_core.proofs.InverseRuns.{beside_none, beside_next, residuals_next}
use Rattle.predict_core.proofs.RunSteps.{moved_none, moved_next}
use Rattle.predict_core.proofs.band.Band.inverse_each.Goals as goal
use Rattle.predict_core.proofs.band.Band.inverse_each.Goals.{After-loop-i}

pub loop-i-init : goal.loop-i-init
loop-i-init c = record {
  moved = moved_none c.args.self.now;
  held = refl;
  beside = beside_none c.args.cube.now c.args.self.now.band c.args.y c.args.x;
  residuals = λ p f. refl;
  follows = λ p f. f;
  whole = c.prove_is_cube.ensures.whole;
}

pub loop-i-preserved : goal.loop-i-preserved
loop-i-preserved c =
    let kept = c.loop-i.invariant in let d : Image = c.loop-i.cube in let s = c.self.inside.settings in let v = c.inverse_into.result in
    let is : c.inverse_into.new.cube ≡ put d c.args.self.now.band c.args.y (c.args.x + c.loop-i.i) v = rw kept.moved.band at c.inverse_into.ensures.written in
    let before : IsPlace c.args.cube.now.shape c.args.self.now.band c.args.y (c.args.x + c.loop-i.i) =
    record { band = c.requires.place.band; row = c.requires.place.row; column = omega (arith, c.requires.inside, c.loop-i-test.true) } in
    let place = rw kept.beside.alike.shape at before in
    let there = kept.moved.t ∙ ap (λ t. t + c.loop-i.i) (rw kept.beside.alike.shape at c.requires.next) in
    let shape = rw (← c.self.view_is) at c.requires.shape in let columns = c.self.invariant.columns in
    let wide : (p : Params) → Follows p c.args.self.now c.args.cube.now → p.column ≡ false → 2 ≤ d.shape.columns =
    λ p f h. let g = rw (← c.self.view_is) at f in let w = (rw g.made.predictor at s.wide) h in
    rw (← kept.beside.alike.shape, shape) (omega (arith, w, columns)) in
    rw is
    (record {
      moved = moved_next c.loop-i.i c.args.self.now c.loop-i.self c.inverse_into.new.self kept.moved c.inverse_into.ensures.moved;
      held = c.inverse_into.ensures.held ∙ kept.held;
      beside = beside_next c.args.cube.now d c.args.self.now.band c.args.y c.args.x c.loop-i.i v place kept.whole kept.beside;
      residuals = λ p f. residuals_next p d c.args.self.now.band c.args.y c.args.x c.loop-i.i v c.args.deltas.now place kept.whole (wide p f)
          c.loop-i-test.true (kept.residuals p f) (rw (is, kept.moved.band, there) at (c.inverse_into.ensures.residual p (kept.follows p f)));
      follows = λ p f. rw is at (c.inverse_into.ensures.follows p (kept.follows p f));
      whole = rw length-set kept.whole;
    })

done : (c : After-loop-i) → c.loop-i.i ≡ length c.args.deltas.now
done c = omega (arith, c.loop-i-test.false, c.loop-i.auto.i-end)

pub returns-clause-residuals : goal.returns-clause-residuals
returns-clause-residuals c p f =
    let kept = c.loop-i.invariant in rw (c.requires.next, kept.beside.alike.shape) ((rw (done c) at (kept.residuals p f)) ∙ take_all _ _ (omega arith))

pub returns-clause-beside : goal.returns-clause-beside
returns-clause-beside c = rw (← done c) c.loop-i.invariant.beside

pub returns-clause-moved : goal.returns-clause-moved
returns-clause-moved c = rw (← done c) c.loop-i.invariant.moved

pub returns-clause-follows : goal.returns-clause-follows
returns-clause-follows c = c.loop-i.invariant.follows
