use Rattle.std.proofs.Common.{◌<◌, ◌+◌, List, ℕ, ap, refl, arith}
use Rattle.std.specs.List.{flat_map}
use Rattle.cube_core.specs.Order.{upto}
use Rattle.cube_core.specs.Shape.{Sizes}
use Rattle.file_encoding.specs.InPlace.{offsets_of}
use Rattle.file_encoding.proofs.Sending.{Steps, none_yet, stepped, upto_rest}
use Rattle.file_encoding.proofs.offsets.send_offsets.Goals as goal
use Rattle.file_encoding.proofs.offsets.send_offsets.Goals.{In-loop-z}
use Rattle.file_encoding.proofs.offsets.send_offsets.Given.{Over}

module _ (g : Over) (c : In-loop-z g) where
  abbrev plane : ℕ → List ℕ
  plane z = flat_map (λ y. offsets_of c.args.cube.now z y) (upto c.args.cube.now.shape.rows)

  step : Steps g.T.Taker.may g.T.Taker.takes c.args.taker.now c.loop-z.taker (flat_map plane (upto c.args.cube.now.shape.bands)) (plane c.loop-z.z)
      (flat_map plane (upto (c.loop-z.z + 1)))
  step =
      let next : c.loop-z.z < c.args.cube.now.shape.bands = omega (arith, c.loop-z-test.true, ap (λ (s : Sizes). s.bands) c.shape.ensures) in
      stepped g.met.T.Taker.laws c.loop-z.invariant.sent c.requires.may (upto_rest _ _ _ next) refl

pub loop-z-init : goal.loop-z-init
loop-z-init g c = record { sent = none_yet g.met.T.Taker.laws c.requires.may }

pub send_plane-requires-clause-may : goal.send_plane-requires-clause-may
send_plane-requires-clause-may g c = (step g (goal.at.send_plane-requires-clause-may g c).In-loop-z).fits

pub returns-then-not-send_plane : goal.returns-then-not-send_plane
returns-then-not-send_plane g c = record { sent = (step g (goal.at.returns-then-not-send_plane g c).In-loop-z).cut _ _ c.if-not-send_plane.true c.send_plane.ensures.sent }

pub loop-z-preserved : goal.loop-z-preserved
loop-z-preserved g c = record { sent = (step g (goal.at.loop-z-preserved g c).In-loop-z).more _ _ c.if-not-send_plane.false c.send_plane.ensures.sent }
