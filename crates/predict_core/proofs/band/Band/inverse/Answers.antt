use Rattle.std.proofs.Common.{◌≡◌, ◌≤◌, ◌+◌, ◌*◌, false, SFits, w32, to_z-of_z, rules, arith}
use Rattle.cube_core.specs.Image.{IsPlace}
use Rattle.header_bits.specs.declared.params.Params.{Params}
use Rattle.predict_core.specs.Following.{Follows}
use Rattle.predict_core.proofs.Inverting.{residual_put, weights_put, first_residual_put, first_weights_put}
use Rattle.predict_core.proofs.band.Band.inverse.Goals as goal
use Rattle.predict_core.proofs.band.Band.inverse.Goals.{After-self}

-- what is required, of the fields of the band
module _ (c : After-self) where
  place : IsPlace c.args.cube.now.shape c.self.inside.settings.band c.args.y c.args.x
  place = rw (← c.self.view_is) at c.requires.place

  next : c.self.inside.next ≡ c.args.y * c.args.cube.now.shape.columns + c.args.x
  next = rw (← c.self.view_is) at c.requires.next

  wide : (p : Params) → Follows p c.args.self.now c.args.cube.now → p.column ≡ false → 2 ≤ c.args.cube.now.shape.columns
  wide p f h =
      let g = rw (← c.self.view_is) at f in let w = (rw g.made.predictor at c.self.inside.settings.wide) h in let columns = c.self.invariant.columns in
      rw (rw (← c.self.view_is) at c.requires.shape) (omega arith)

pub returns-then-t-eq0-clause-residual : goal.returns-then-t-eq0-clause-residual
returns-then-t-eq0-clause-residual c p f =
    let d = (goal.at.returns-then-t-eq0-clause-residual c).After-self in
    let fits : SFits w32 c.first_sample.result = search rules in let g = rw (← c.self.view_is) at f in rw (← c.self.view_is, c.if-t-eq0.true, to_z-of_z fits)
    (first_residual_put p _ c.args.cube.now _ c.args.y c.args.x _ c.first_sample.result _ (place d) c.prove_is_cube.ensures.whole (wide d p f)
    g.made.predictor (next d) g.weights c.if-t-eq0.true c.args.delta (rw c.of-rows.ensures at c.first_sample.ensures.inverse))

pub returns-then-t-eq0-clause-follows : goal.returns-then-t-eq0-clause-follows
returns-then-t-eq0-clause-follows c p f =
    let d = (goal.at.returns-then-t-eq0-clause-follows c).After-self in
    let fits : SFits w32 c.first_sample.result = search rules in let g = rw (← c.self.view_is) at f in rw (← c.self.view_is, c.if-t-eq0.true, to_z-of_z fits)
    (record {
      made = record { predictor = g.made.predictor; shape = g.made.shape; kind = g.made.kind };
      weights = first_weights_put p _ c.args.cube.now _ c.args.y c.args.x _ c.first_sample.result _ (place d) c.prove_is_cube.ensures.whole (wide d p f)
          g.made.predictor (next d) g.weights c.if-t-eq0.true;
    })

pub returns-else-t-eq0-clause-residual : goal.returns-else-t-eq0-clause-residual
returns-else-t-eq0-clause-residual c p f =
    let d = (goal.at.returns-else-t-eq0-clause-residual c).After-self in
    let fits : SFits w32 c.next_sample.result = search rules in let g = rw (← c.self.view_is) at f in rw (← c.self.view_is, to_z-of_z fits)
    (residual_put p _ c.args.cube.now _ c.args.y c.args.x _ c.next_sample.result _ (place d) c.prove_is_cube.ensures.whole (wide d p f)
    g.made.predictor (next d) (rw c.self.inside.settings.count_is at g.weights) (omega arith) c.args.delta (rw c.of-rows.ensures at c.next_sample.ensures.inverse))

pub returns-else-t-eq0-clause-follows : goal.returns-else-t-eq0-clause-follows
returns-else-t-eq0-clause-follows c p f =
    let d = (goal.at.returns-else-t-eq0-clause-follows c).After-self in let s = c.self.inside.settings in
    let fits : SFits w32 c.next_sample.result = search rules in let g = rw (← c.self.view_is) at f in
    let moved = weights_put p s.predictor c.args.cube.now _ c.args.y c.args.x _ c.next_sample.result _ (place d) c.prove_is_cube.ensures.whole
    (wide d p f) g.made.predictor (next d) (rw s.count_is at g.weights) (omega arith) _ (rw c.of-rows.ensures at c.next_sample.ensures.weights) in
    rw (← c.self.view_is, to_z-of_z fits)
    (record { made = record { predictor = g.made.predictor; shape = g.made.shape; kind = g.made.kind }; weights = rw s.count_is moved })
