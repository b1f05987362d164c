use Rattle.std.proofs.Common.{◌≡◌, ◌∙◌, pos, ◌+ℤ◌, ◌*ℤ◌, ◌≤ℤ◌, unsigned_abs, arith, rules, SFits, w32, to_z-of_z}
use Rattle.std.proofs.lemmas.List.{length-set}
use Rattle.lanes.specs.Lanes.{lane}
use Rattle.sample_prediction.specs.Arithmetic.{floor_div, clip}
use Rattle.sample_prediction.specs.Mapping.{unmapped_between}
use Rattle.wave_inversion.proofs.WaveRows.{lane_set}
use Rattle.wave_inversion.proofs.long.unmapping.unmapped.Goals as goal

pub loop-b-preserved : goal.loop-b-preserved
loop-b-preserved c =
    let kept = c.loop-b.invariant in let b = c.loop-b.b in
    let fits : SFits w32 c.offset_at.result = search rules in
    let greatest = to_z-of_z c.ranges.greatest in
    let part : SFits w32 (lane c.args.parts.now b) = search rules in
    let sum : SFits w32 (lane c.args.sums.now b) = search rules in
    let residual : SFits w32 (lane c.args.residuals.now b) = search rules in
    let value = simp (to_z-of_z part, to_z-of_z sum, to_z-of_z residual, greatest) at c.offset_at.ensures.value in
    let range = simp greatest at c.offset_at.ensures.range in
    rw (to_z-of_z fits, greatest) (record {
      long = length-set c.loop-b.offsets b c.offset_at.result ∙ kept.long;
      value = lane_set (λ k v. v ≡ unmapped_between (pos 0) c.args.greatest (clip (floor_div (lane c.args.parts.now k +ℤ lane c.args.sums.now k) 2 +ℤ pos 1) (pos 0)
          (pos 2 *ℤ c.args.greatest +ℤ pos 1)) (unsigned_abs (lane c.args.residuals.now k))) b c.loop-b.offsets c.offset_at.result
          (omega (arith, kept.long, c.loop-b-test.true)) value (rw greatest at kept.value);
      range = lane_set (λ k v. (pos 0 ≤ℤ v) × (v ≤ℤ c.args.greatest)) b c.loop-b.offsets c.offset_at.result (omega (arith, kept.long, c.loop-b-test.true))
          range (rw greatest at kept.range);
    })
