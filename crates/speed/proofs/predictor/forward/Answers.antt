use Rattle.std.proofs.Common.{◌≡◌, ◌∙◌, ◌<◌, ◌^◌, length, sym, ap, subst, arith}
use Rattle.std.specs.List.{AllByRecursion}
use Rattle.cube_core.specs.Shape.{Sizes, sample_count}
use Rattle.cube_core.specs.Kind.{SampleKind}
use Rattle.cube_core.specs.Order.{IsOrder}
use Rattle.cube_core.proofs.Lists.{each_below}
use Rattle.sample_prediction.specs.Residual.{residuals}
use Rattle.predict_core.proofs.OneCube.{residuals_inside}
use Rattle.file_encoding.proofs.Owning.{length-residuals}
use Rattle.file_encoding.proofs.Encoding.{all_fresh, all_residuals}
use Rattle.speed.proofs.predictor.forward.Goals as goal
use Rattle.speed.proofs.predictor.forward.Goals.{Then-send_own}

pub send_own-requires-clause-bands : goal.send_own-requires-clause-bands
send_own-requires-clause-bands c =
    let made = c.in_ok-bands.ensures in
    let many : length c.in_ok-bands.bands.items ≡ c.args.params.now.shape.bands = omega (arith, made.len, c.in_ok-bands.bands.ok.0) in
    rw c.deref_mut.ensures.value (all_fresh c.args.params.now c.args.cube.now _ many (made.along c.args.cube.now) made.first)

module _ (c : Then-send_own) where
  all : c.send_own.new.taker.residuals.items ≡ residuals c.args.params.now c.args.cube.now
  all =
      rw (c.requires.none, all_residuals c.args.params.now c.args.cube.now c.requires.lawful.order c.requires.shape) at
      (c.send_own.ensures c.if-send_own.true)

  in_order : IsOrder c.args.cube.now.shape c.args.params.now.order
  in_order = subst (λ (s : Sizes). IsOrder s c.args.params.now.order) (sym c.requires.shape) c.requires.lawful.order

pub returns-then-send_own-clause-residuals : goal.returns-then-send_own-clause-residuals
returns-then-send_own-clause-residuals c = all (goal.at.returns-then-send_own-clause-residuals c).Then-send_own

pub returns-then-send_own-clause-count : goal.returns-then-send_own-clause-count
returns-then-send_own-clause-count c =
    let here = (goal.at.returns-then-send_own-clause-count c).Then-send_own in
    ap length (all here) ∙ length-residuals c.args.params.now c.args.cube.now (in_order here) ∙ ap sample_count c.requires.shape

pub returns-then-send_own-clause-below : goal.returns-then-send_own-clause-below
returns-then-send_own-clause-below c =
    let here = (goal.at.returns-then-send_own-clause-below c).Then-send_own in
    let inside : AllByRecursion (λ n. n < 2 ^ c.args.params.now.kind.bits) (residuals c.args.params.now c.args.cube.now) =
    subst (λ (k : SampleKind). AllByRecursion (λ n. n < 2 ^ k.bits) (residuals c.args.params.now c.args.cube.now)) c.requires.kind
    (residuals_inside c.args.params.now c.args.cube.now (in_order here) c.prove_is_cube.ensures) in
    each_below _ _ (rw (all here) inside)
