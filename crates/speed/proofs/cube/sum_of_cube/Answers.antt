use Rattle.std.proofs.Common.{◌≡◌, ◌∙◌, ℕ, ap, arith}
use Rattle.cube_core.specs.Shape.{Sizes}
use Rattle.cube_core.specs.Image.{IsPlace}
use Rattle.speed.specs.Numbers.{mixed}
use Rattle.speed.proofs.Scene.{checksum_before, checksum_more, row_after, band_after, checksum_whole}
use Rattle.speed.proofs.cube.sum_of_cube.Goals as goal

pub loop-offset-preserved : goal.loop-offset-preserved
loop-offset-preserved c =
    let place : IsPlace c.args.cube.now.shape c.loop-z.z c.loop-y.y c.loop-offset.offset-index = record {
      band = omega (arith, c.loop-z-test.true, c.bands-z-end.ensures.value, ap (λ (s : Sizes). s.bands) c.shape-shape.ensures);
      row = omega (arith, c.loop-y-test.true, c.rows-y-end.ensures.value, ap (λ (s : Sizes). s.rows) c.shape-shape.ensures);
      column = omega (arith, c.loop-offset-test.true, c.row-offset-items.ensures.len);
    } in
    c.mixed-sum.ensures
    ∙ ap (λ (n : ℕ). mixed n c.from.result) c.loop-offset.invariant
    ∙ ap (mixed (checksum_before c.args.cube.now c.loop-z.z c.loop-y.y c.loop-offset.offset-index)) c.from.ensures
    ∙ checksum_more c.args.cube.now c.loop-z.z c.loop-y.y c.loop-offset.offset-index c.row-offset-items.result.now c.prove_is_cube.ensures place
    c.row-offset-items.ensures.samples

pub loop-y-preserved : goal.loop-y-preserved
loop-y-preserved c =
    let columns : c.loop-offset.offset-index ≡ c.args.cube.now.shape.columns =
    omega (arith, c.loop-offset-test.false, c.loop-offset.auto, c.row-offset-items.ensures.len) in
    c.loop-offset.invariant ∙ ap (checksum_before c.args.cube.now c.loop-z.z c.loop-y.y) columns ∙ row_after c.args.cube.now c.loop-z.z c.loop-y.y

pub loop-z-preserved : goal.loop-z-preserved
loop-z-preserved c =
    let rows : c.loop-y.y ≡ c.args.cube.now.shape.rows =
    omega (arith, c.loop-y-test.false, c.loop-y.auto, c.rows-y-end.ensures.value, ap (λ (s : Sizes). s.rows) c.shape-shape.ensures) in
    c.loop-y.invariant ∙ ap (λ (y : ℕ). checksum_before c.args.cube.now c.loop-z.z y 0) rows ∙ band_after c.args.cube.now c.loop-z.z

pub returns : goal.returns
returns c =
    let bands : c.loop-z.z ≡ c.args.cube.now.shape.bands =
    omega (arith, c.loop-z-test.false, c.loop-z.auto, c.bands-z-end.ensures.value, ap (λ (s : Sizes). s.bands) c.shape-shape.ensures) in
    c.loop-z.invariant ∙ ap (λ (z : ℕ). checksum_before c.args.cube.now z 0 0) bands ∙ checksum_whole c.args.cube.now c.prove_is_cube.ensures
