use Rattle.std.proofs.Common.{◌≡◌, ◌<◌, ℕ, ℤ, pos, negsuc, ◌+ℤ◌, ◌-ℤ◌, ◌*ℤ◌, ◌≤ℤ◌, int_lt, int_le, ap, ◌∙◌, SFits, w32, to_z, of_z, to_z-of_z, rules}
use Rattle.std.proofs.Common.{arith, refl}
use Rattle.std.proofs.lemmas.Int.{ints}
use Rattle.cube_core.specs.Kind.{SampleKind, smin, smid, smax}
use Rattle.sample_prediction.specs.declared.sample_limits.SampleLimits.{SampleLimits}
use Rattle.sample_prediction.specs.Arithmetic.{floor_div, clip}
use Rattle.sample_prediction.specs.Mapping.{Between}
use Rattle.sample_prediction.specs.Residual.{mapped_between}
use Rattle.sample_prediction.proofs.Floors.{sign_of_center, sign_of_part}
use Rattle.predict_core.proofs.Numbers.{shifted, scaled_up}
use Rattle.sample_prediction.proofs.Spans.{span}
use Rattle.predict_core.proofs.inverse.chain.sample_by_part.Goals as goal
use Rattle.predict_core.proofs.inverse.chain.sample_by_part.Goals.{After-unmap_by_center-offset}

below_span : (width : ℤ) (n power : ℕ) → width ≡ pos power -ℤ pos 1 → n < power → pos n ≤ℤ (width -ℤ pos 0)
below_span width n power e l = omega (arith, ints, e, l)

-- from the least offset to the greatest
width : (r : SampleLimits) → to_z w32 (of_z w32 (to_z w32 (of_z w32 r.smax) -ℤ to_z w32 (of_z w32 r.smin))) ≡ smax r.kind -ℤ smin r.kind
width r = let low = r.low in let high = r.high in rw (← r.smin_is, ← r.smax_is) (omega (arith, ints, low.0, low.1, high.0, high.1))

pub unmap_by_center-offset-requires-clause-delta_in : goal.unmap_by_center-offset-requires-clause-delta_in
unmap_by_center-offset-requires-clause-delta_in c =
    rw (width c.args.range.now) (below_span _ _ _ (span c.args.range.now.kind c.args.range.now.lawful) c.requires.residual)

-- the sample of an offset, as the code computes it
sample_is : (low high v : ℤ) → negsuc 32767 ≤ℤ low → low ≤ℤ pos 0 → pos 0 ≤ℤ v → v ≤ℤ (high -ℤ low) → high ≤ℤ pos 65535
    → to_z w32 (of_z w32 (to_z w32 (of_z w32 low) +ℤ to_z w32 (of_z w32 v))) ≡ low +ℤ v
sample_is low high v a b d e f = omega (arith, ints)

back_from_offset : (low middle high part sum scaled offset : ℤ) (delta : ℕ)
    → scaled ≡ clip (floor_div (part +ℤ sum) 2 +ℤ pos 1) (pos 0) (pos 2 *ℤ (high -ℤ low) +ℤ pos 1) → mapped_between (pos 0) (high -ℤ low) scaled offset ≡ delta
    → mapped_between low high (clip (floor_div (part +ℤ ((pos 4 *ℤ low +ℤ sum) -ℤ pos 4 *ℤ middle)) 2 +ℤ pos 2 *ℤ middle +ℤ pos 1)
    (pos 2 *ℤ low) (pos 2 *ℤ high +ℤ pos 1)) (low +ℤ offset) ≡ delta
back_from_offset low middle high part sum scaled offset delta s e = rw (scaled_up low middle high part sum, ← s) (shifted low high scaled offset ∙ e)

-- an error is negative exactly where the central difference is at most the predicted one
told : (low part sum offset greatest scaled : ℤ) → pos 0 ≤ℤ offset → offset ≤ℤ greatest
    → scaled ≡ clip (floor_div (part +ℤ sum) 2 +ℤ pos 1) (pos 0) (pos 2 *ℤ greatest +ℤ pos 1)
    → int_lt (pos 2 *ℤ offset -ℤ scaled) (pos 0) ≡ int_le (pos 4 *ℤ (low +ℤ offset) -ℤ (pos 4 *ℤ low +ℤ sum)) part
told low part sum offset greatest scaled a b e =
    let same : part +ℤ (sum -ℤ pos 4 *ℤ pos 0) ≡ part +ℤ sum = omega (arith, ints) in
    sign_of_center (pos 0) greatest offset (floor_div (part +ℤ sum) 2 +ℤ pos 1) scaled a b e ∙ ap (int_lt (pos 2 *ℤ offset)) (omega (arith, ints))
    ∙ (rw same at (sign_of_part offset sum (pos 0) part)) ∙ ap (λ v. int_le v part) (omega (arith, ints))

module _ (c : After-unmap_by_center-offset) where
  within : Between (pos 0) (smax c.args.range.now.kind -ℤ smin c.args.range.now.kind) c.unmap_by_center-offset.result.0
  within = rw (width c.args.range.now) at c.unmap_by_center-offset.ensures.range

  sample_found : to_z w32 (of_z w32 (to_z w32 (of_z w32 c.args.range.now.smin) +ℤ to_z w32 (of_z w32 c.unmap_by_center-offset.result.0)))
      ≡ smin c.args.range.now.kind +ℤ c.unmap_by_center-offset.result.0
  sample_found =
      let r = c.args.range.now in let low = r.low in let high = r.high in
      sample_is r.smin (smax r.kind) _ low.0 low.1 within.0 (rw r.smin_is within.1) (rw (← r.smax_is) high.1)
      ∙ ap (λ v. v +ℤ c.unmap_by_center-offset.result.0) r.smin_is

pub returns-clause-sign : goal.returns-clause-sign
returns-clause-sign c =
    let d = (goal.at.returns-clause-sign c).After-unmap_by_center-offset in let k : SampleKind = c.args.range.now.kind in
    let center_fits : SFits w32 c.center_of-center.result = search rules in let mask_fits : SFits w32 c.unmap_by_center-offset.result.1 = search rules in
    let center = simp (to_z-of_z c.ranges.part) at c.center_of-center.ensures.value in
    let sign_mask = rw (width c.args.range.now, center) at (simp (to_z-of_z center_fits) at c.unmap_by_center-offset.ensures.sign) in
    rw (to_z-of_z mask_fits, sample_found d)
    (sign_mask ∙ told (smin k) c.args.part (pos c.args.sum) _ (smax k -ℤ smin k) _ (within d).0 (within d).1 refl)

pub returns-clause-inverse : goal.returns-clause-inverse
returns-clause-inverse c =
    let d = (goal.at.returns-clause-inverse c).After-unmap_by_center-offset in let k : SampleKind = c.args.range.now.kind in
    let center_fits : SFits w32 c.center_of-center.result = search rules in let center = simp (to_z-of_z c.ranges.part) at c.center_of-center.ensures.value in
    let e = rw (width c.args.range.now, center) at (simp (to_z-of_z center_fits) at c.unmap_by_center-offset.ensures.inverse) in
    rw (sample_found d) (back_from_offset (smin k) (smid k) (smax k) c.args.part (pos c.args.sum) _ _ c.args.delta refl e)

pub returns-clause-range : goal.returns-clause-range
returns-clause-range c =
    let d = (goal.at.returns-clause-range c).After-unmap_by_center-offset in
    let w = within d in rw (sample_found d) (omega (arith, ints, w.0), omega (arith, ints, w.1))
