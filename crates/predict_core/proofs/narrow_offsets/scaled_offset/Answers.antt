use Rattle.std.proofs.Common.{◌≡◌, ◌∙◌, ℤ, pos, ◌+ℤ◌, ◌*ℤ◌, ◌≤ℤ◌, SFits, w16, to_z, of_z, to_z-of_z, rules, ap, arith}
use Rattle.std.specs.Int.{int_min, int_max}
use Rattle.std.proofs.lemmas.Int.{ints, clamps}
use Rattle.lanes.specs.Lanes.{held}
use Rattle.sample_prediction.specs.Arithmetic.{floor_div, clip}
use Rattle.predict_core.proofs.NarrowOffsets.{held_clipped}
use Rattle.predict_core.proofs.narrow_offsets.scaled_offset.Goals as goal
use Rattle.predict_core.proofs.narrow_offsets.scaled_offset.Goals.{After-max}

one_more : (u t : ℤ) → SFits w16 t → t ≤ℤ (pos 2 *ℤ u +ℤ pos 1) → (pos 2 *ℤ u) ≤ℤ t → to_z w16 (of_z w16 (to_z w16 (of_z w16 u) +ℤ pos 1)) ≡ u +ℤ pos 1
one_more u t f h k = let g = f.sfits in omega (arith, ints, g, h, k)

top_is : (g : ℤ) → pos 1 ≤ℤ g → g ≤ℤ pos 8191 → to_z w16 (of_z w16 (to_z w16 (of_z w16 (pos 2 *ℤ to_z w16 (of_z w16 g))) +ℤ pos 1)) ≡ pos 2 *ℤ g +ℤ pos 1
top_is g h k = omega (arith, ints)

limited : (u g : ℤ) → pos 1 ≤ℤ g → int_max (int_min (u +ℤ pos 1) (pos 2 *ℤ g +ℤ pos 1)) (pos 0) ≡ clip (u +ℤ pos 1) (pos 0) (pos 2 *ℤ g +ℤ pos 1)
limited u g h = omega (arith, ints, clamps, h)

clipped : (c : After-max) → to_z w16 (of_z w16 c.max.result) ≡ clip (floor_div (c.args.part +ℤ c.args.sum) 2 +ℤ pos 1) (pos 0) (pos 2 *ℤ c.args.greatest +ℤ pos 1)
clipped c =
    let g = c.requires.greatest_in in let held_fits : SFits w16 c.held_sum.result = search rules in
    let h = simp (to_z-of_z held_fits) at c.half_of-upper.ensures in
    let more = one_more c.half_of-upper.result c.held_sum.result held_fits h.high h.low in
    let min_fits : SFits w16 c.min.result = search rules in let max_fits : SFits w16 c.max.result = search rules in
    let a = rw (more, top_is c.args.greatest g.0 g.1) at c.min.ensures.value in
    let whole : c.held_sum.result ≡ held (c.args.part +ℤ c.args.sum) = simp (to_z-of_z c.ranges.part, to_z-of_z c.ranges.sum) at c.held_sum.ensures in
    let half : c.half_of-upper.result ≡ floor_div (held (c.args.part +ℤ c.args.sum)) 2 = h.value ∙ ap (λ t. floor_div t 2) whole in
    to_z-of_z max_fits ∙ rw (to_z-of_z min_fits, a) at c.max.ensures.value ∙ limited c.half_of-upper.result c.args.greatest g.0
    ∙ ap (λ u. clip (u +ℤ pos 1) (pos 0) (pos 2 *ℤ c.args.greatest +ℤ pos 1)) half ∙ held_clipped c.args.greatest (c.args.part +ℤ c.args.sum) g.0 g.1

pub returns-clause-bounds : goal.returns-clause-bounds
returns-clause-bounds c =
    let e = clipped (goal.at.returns-clause-bounds c).After-max in let g = c.requires.greatest_in in
    rw e (omega (arith, ints, clamps, g.0), omega (arith, ints, clamps, g.0))

pub returns-clause-value : goal.returns-clause-value
returns-clause-value c = clipped (goal.at.returns-clause-value c).After-max
