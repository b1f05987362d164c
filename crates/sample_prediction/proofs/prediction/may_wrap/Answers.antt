use Rattle.std.proofs.Common.{◌≡◌, ◌-◌, ◌*◌, ◌^◌, ◌<◌, ◌≤◌, ℤ, pos, negsuc, ◌+ℤ◌, ◌-ℤ◌, ◌*ℤ◌, ◌≤ℤ◌, unsigned_abs, w32, to_z}
use Rattle.std.proofs.Common.{of_z, pow_pos, leb-false, refl, arith}
use Rattle.std.proofs.lemmas.Int.{ints}
use Rattle.std.proofs.Math.Pow.{pow-add, pow_mono}
use Rattle.sample_prediction.specs.Arithmetic.{floor_div}
use Rattle.cube_core.specs.Kind.{smid}
use Rattle.sample_prediction.proofs.Floors.{sum_below, kept}
use Rattle.sample_prediction.proofs.prediction.may_wrap.Goals as goal

-- the upper part of the register, as the code computes it
upper_is : (part sum middle : ℤ) → unsigned_abs part ≤ 18 * 2 ^ 20 → negsuc 131071 ≤ℤ sum → sum ≤ℤ pos 262140 → pos 0 ≤ℤ middle → middle ≤ℤ pos 32768
    → to_z w32 (of_z w32 (to_z w32 (of_z w32 part)
    +ℤ to_z w32 (of_z w32 (to_z w32 (of_z w32 sum) -ℤ to_z w32 (of_z w32 (pos 4 *ℤ to_z w32 (of_z w32 middle)))))))
    ≡ part +ℤ (sum -ℤ pos 4 *ℤ middle)
upper_is part sum middle a b d e f = omega (arith, ints, a, b, d, e, f)

pub returns-then-this-ne0 : goal.returns-then-this-ne0
returns-then-this-ne0 g c = record {
  kept = λ h.
      let p = c.args.predictor.now in let r = c.args.range.now in let sum = c.requires.sum_in in
      let upper = upper_is c.args.part c.args.sum r.smid c.requires.part_in sum.0 sum.1 r.mid.0 r.mid.1 in
      let size : c.unsigned_abs.result ≡ unsigned_abs (floor_div c.args.product (2 ^ p.omega) +ℤ (c.args.sum -ℤ pos 4 *ℤ smid r.kind)) =
      rw (upper, r.smid_is, c.requires.part_is) at c.unsigned_abs.ensures.value in
      let small : c.unsigned_abs.result < c.register_limit.result = leb-false _ _ h in
      kept p.register _ (omega (arith, c.requires.lawful.register)) (sum_below _ _ _ _ _ (pow_pos p.omega) (rw size at small) c.register_limit.ensures);
}

pub returns-else-this-ne0 : goal.returns-else-this-ne0
returns-else-this-ne0 g c = record {
  kept = λ h.
      let p = c.args.predictor.now in let r = c.args.range.now in let sum = c.requires.sum_in in
      let wide : 46 ≤ p.register = c.requires.register (rw c.if-this-ne0.false refl) in
      let part : unsigned_abs (floor_div c.args.product (2 ^ p.omega)) ≤ 18 * 2 ^ 20 = rw c.requires.part_is at c.requires.part_in in
      let small : unsigned_abs (floor_div c.args.product (2 ^ p.omega) +ℤ (c.args.sum -ℤ pos 4 *ℤ smid r.kind)) < 2 ^ 26 =
      rw (← r.smid_is) (omega (arith, ints, part, sum.0, sum.1, r.mid.0, r.mid.1)) in
      let room : 2 ^ 26 * 2 ^ p.omega ≤ 2 ^ (p.register - 1) = rw (← pow-add 2 26 p.omega) (pow_mono (omega (arith, wide, c.requires.lawful.omega))) in
      kept p.register _ (omega (arith, wide)) (sum_below _ _ _ _ _ (pow_pos p.omega) small room);
}
