use Rattle.std.proofs.Common.{◌<◌, ◌+◌, ap, arith}
use Rattle.std.specs.List.{flat_map}
use Rattle.cube_core.specs.Order.{upto}
use Rattle.cube_core.specs.Shape.{Sizes}
use Rattle.file_encoding.specs.InPlace.{offsets_of}
use Rattle.file_encoding.proofs.InPlace.{offsets_are}
use Rattle.file_encoding.proofs.Sending.{Steps, none_yet, stepped, upto_rest}
use Rattle.file_encoding.proofs.offsets.send_plane.Goals as goal
use Rattle.file_encoding.proofs.offsets.send_plane.Goals.{After-row}
use Rattle.file_encoding.proofs.offsets.send_plane.Given.{Over}

module _ (g : Over) (c : After-row g) where
  step : Steps g.T.Taker.may g.T.Taker.takes c.args.taker.now c.loop-y.taker (flat_map (λ y. offsets_of c.args.cube.now c.args.z y) (upto c.args.cube.now.shape.rows))
      c.row.result.now (flat_map (λ y. offsets_of c.args.cube.now c.args.z y) (upto (c.loop-y.y + 1)))
  step =
      let next : c.loop-y.y < c.args.cube.now.shape.rows = omega (arith, c.loop-y-test.true, ap (λ (s : Sizes). s.rows) c.shape.ensures) in
      stepped g.met.T.Taker.laws c.loop-y.invariant.sent c.requires.may (upto_rest _ _ _ next)
      (offsets_are c.args.cube.now c.args.z c.loop-y.y c.row.result.now c.row.ensures.len (λ x column. (c.row.ensures.samples x column).1))

pub loop-y-init : goal.loop-y-init
loop-y-init g c = record { sent = none_yet g.met.T.Taker.laws c.requires.may }

pub take-requires : goal.take-requires
take-requires g c = (step g (goal.at.take-requires g c).After-row).fits

pub returns-then-not-take : goal.returns-then-not-take
returns-then-not-take g c = record { sent = (step g (goal.at.returns-then-not-take g c).After-row).cut _ _ c.if-not-take.true c.take.ensures }

pub loop-y-preserved : goal.loop-y-preserved
loop-y-preserved g c = record { sent = (step g (goal.at.loop-y-preserved g c).After-row).more _ _ c.if-not-take.false c.take.ensures }
