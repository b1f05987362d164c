use Rattle.std.proofs.Common.{◌≡◌, ℤ, pos, ◌+ℤ◌, ◌-ℤ◌, ◌*ℤ◌, ◌≤◌, ◌≤ℤ◌, unsigned_abs, SFits, w16, to_z, of_z, to_z-of_z, rules, arith, ◌∙◌, rules}
use Rattle.std.proofs.lemmas.Int.{ints, fits_signed_from_abs}
use Rattle.sample_prediction.specs.Residual.{mapped_between}
use Rattle.predict_core.proofs.Numbers.{number_is}
use Rattle.sample_prediction.proofs.OneSample.{number_in}
use Rattle.group_prediction.proofs.mapping.number_at.Goals as goal
use Rattle.group_prediction.proofs.mapping.number_at.Goals.{After-min}

-- twice the error, less the parity, as the code computes it
far_is : (g t h : ℤ) → pos 0 ≤ℤ t → t ≤ℤ (pos 2 *ℤ g +ℤ pos 1) → g ≤ℤ pos 8191 → pos 0 ≤ℤ h → h ≤ℤ g
    → to_z w16 (of_z w16 (to_z w16 (of_z w16 (pos 2 *ℤ to_z w16 (of_z w16 h))) -ℤ to_z w16 (of_z w16 t))) ≡ pos 2 *ℤ h -ℤ t
far_is g t h a b d e f = omega (arith, ints)

beyond_is : (a b : ℤ) → unsigned_abs a ≤ 16382 → unsigned_abs b ≤ 4095 → to_z w16 (of_z w16 (to_z w16 (of_z w16 a) +ℤ to_z w16 (of_z w16 b))) ≡ a +ℤ b
beyond_is a b h k = omega (arith, ints)

pub overflow_sub-offset : goal.overflow_sub-offset
overflow_sub-offset c =
    let t = c.requires.twice_in in let h = c.requires.offset_in in let g = c.requires.greatest_in in
    fits_signed_from_abs w16 (to_z w16 (of_z w16 (pos 2 *ℤ to_z w16 (of_z w16 c.args.offset))) -ℤ to_z w16 (of_z w16 c.args.twice))
    (omega (arith, ints, t.0, t.1, h.0, h.1, g.0, g.1))

pub alternating_number-requires : goal.alternating_number-requires
alternating_number-requires c = let t = c.requires.twice_in in let h = c.requires.offset_in in let g = c.requires.greatest_in in
    omega (arith, ints, t.0, t.1, h.0, h.1, g.0, g.1)

value : (c : After-min) → to_z w16 (of_z w16 c.min.result) ≡ pos (mapped_between (pos 0) c.args.greatest c.args.twice c.args.offset)
value c =
    let g = c.requires.greatest_in in let t = c.requires.twice_in in let h = c.requires.offset_in in
    let half_fits : SFits w16 c.half_of-value.result = search rules in let alternating_fits : SFits w16 c.alternating_number.result = search rules in
    let min_fits : SFits w16 c.min.result = search rules in let half = simp (to_z-of_z c.ranges.twice) at c.half_of-value.ensures.value in
    let far = far_is c.args.greatest c.args.twice c.args.offset t.0 t.1 g.1 h.0 h.1 in
    let beyond = beyond_is c.apart.result c.nearer.result c.apart.ensures.bound c.nearer.ensures.bound in
    let size = rw half at (simp (to_z-of_z c.ranges.offset, to_z-of_z half_fits) at c.apart.ensures.value) in
    let near = rw half at (simp (to_z-of_z c.ranges.greatest, to_z-of_z half_fits) at c.nearer.ensures.value) in
    let least = rw (to_z-of_z alternating_fits, beyond, size, near) at c.min.ensures.value in
    to_z-of_z min_fits ∙ least ∙ number_is _ _ _ _ t.0 (rw far at c.alternating_number.ensures.above) (rw far at c.alternating_number.ensures.below)

pub returns-clause-value : goal.returns-clause-value
returns-clause-value c = value (goal.at.returns-clause-value c).After-min

pub returns-clause-bounds : goal.returns-clause-bounds
returns-clause-bounds c =
    let e = value (goal.at.returns-clause-bounds c).After-min in let t = c.requires.twice_in in
    let h = c.requires.offset_in in let g = c.requires.greatest_in in
    let most = number_in (pos 0) c.args.greatest c.args.twice (omega (arith, ints, t.0)) t.1 c.args.offset h in
    rw e (omega (arith, ints), omega (arith, ints, most))
