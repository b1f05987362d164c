use Rattle.std.proofs.Common.{◌^◌, ◌*ℤ◌, ◌≡◌, ◌≤◌, ◌+◌, ◌/◌, ℕ, ℤ, pos, ◌+ℤ◌, ◌-ℤ◌, ◌≤ℤ◌, int_lt, unsigned_abs, SFits, w32, to_z, of_z, to_z-of_z}
use Rattle.std.proofs.Common.{arith, sym, ap, ap₂, ◌∙◌, Bool, subst, rules}
use Rattle.std.proofs.lemmas.Int.{ints, clamps}
use Rattle.header_bits.proofs.Tests.{lt_false}
use Rattle.sample_prediction.specs.Arithmetic.{floor_div, clip}
use Rattle.sample_prediction.specs.Mapping.{Between, unmapped_between}
use Rattle.sample_prediction.specs.Residual.{mapped_between}
use Rattle.sample_prediction.proofs.NearSamples.{even_sample, odd_sample, even_sign, odd_sign}
use Rattle.sample_prediction.proofs.OneSample.{sample_in, number_back}
use Rattle.sample_prediction.proofs.residual.unmap_by_center.Goals as goal
use Rattle.sample_prediction.proofs.residual.unmap_by_center.Goals.{After-unsigned_abs, After-unmap_far}

-- the samples on both sides of a prediction, as the code computes them
below_is : (p : ℤ) (n : ℕ) → unsigned_abs p ≤ 2 ^ 26 → n ≤ 65536 → to_z w32 (of_z w32 (to_z w32 (of_z w32 p) -ℤ to_z w32 n)) ≡ p -ℤ pos n
below_is p n a l = omega (arith, ints, a)

above_is : (p : ℤ) (n : ℕ) → unsigned_abs p ≤ 2 ^ 26 → n ≤ 65536 → to_z w32 (of_z w32 (to_z w32 (of_z w32 p) +ℤ to_z w32 n)) ≡ p +ℤ pos n
above_is p n a l = omega (arith, ints, a)

module _ (c : After-unsigned_abs) where
  abbrev half_delta : ℕ
  half_delta = (c.args.delta + 1) / 2

  abbrev scaled : ℤ
  scaled = clip c.args.center (pos 2 *ℤ c.args.low) (pos 2 *ℤ c.args.high +ℤ pos 1)

  half : c.prediction_of-predicted.result ≡ floor_div c.args.center 2
  half = simp (to_z-of_z c.ranges.center) at c.prediction_of-predicted.ensures.value

  small : unsigned_abs c.prediction_of-predicted.result ≤ 2 ^ 26
  small =
      let b = c.requires.center_in in let l = simp (to_z-of_z c.ranges.center) at c.prediction_of-predicted.ensures.low in
      let h = simp (to_z-of_z c.ranges.center) at c.prediction_of-predicted.ensures.high in omega (arith, ints, b, l, h)

  few : half_delta ≤ 65536
  few = let f = c.ranges.delta.fits in omega (arith, f)

  below : to_z w32 (of_z w32 (to_z w32 (of_z w32 c.prediction_of-predicted.result) -ℤ to_z w32 half_delta)) ≡ c.prediction_of-predicted.result -ℤ pos half_delta
  below = below_is _ _ small few

  above : to_z w32 (of_z w32 (to_z w32 (of_z w32 c.prediction_of-predicted.result) +ℤ to_z w32 half_delta)) ≡ c.prediction_of-predicted.result +ℤ pos half_delta
  above = above_is _ _ small few

  least : c.args.low ≤ℤ (c.prediction_of-predicted.result -ℤ pos half_delta)
  least = lt_false _ _ (rw (below, to_z-of_z c.ranges.low) at c.if-below-low.false)

  most : (c.prediction_of-predicted.result +ℤ pos half_delta) ≤ℤ c.args.high
  most = lt_false _ _ (let a = above in let h = to_z-of_z c.ranges.high in cc)

  -- nothing is clipped
  whole : scaled ≡ c.args.center
  whole =
      let l = simp (to_z-of_z c.ranges.center) at c.prediction_of-predicted.ensures.low in
      let h = simp (to_z-of_z c.ranges.center) at c.prediction_of-predicted.ensures.high in let a = least in let b = most in
      omega (arith, ints, clamps, l, h, a, b)

  parity : c.unsigned_abs.result ≡ unsigned_abs c.args.center
  parity = simp (to_z-of_z c.ranges.center) at c.unsigned_abs.ensures.value

  range : Between c.args.low c.args.high (unmapped_between c.args.low c.args.high scaled c.args.delta)
  range =
      let o = c.requires.order in
      sample_in c.args.low c.args.high scaled (omega (arith, ints, clamps, o)) (omega (arith, ints, clamps, o)) c.args.delta c.requires.delta_in

  inverse : mapped_between c.args.low c.args.high scaled (unmapped_between c.args.low c.args.high scaled c.args.delta) ≡ c.args.delta
  inverse =
      let o = c.requires.order in
      number_back c.args.low c.args.high scaled (omega (arith, ints, clamps, o)) (omega (arith, ints, clamps, o)) c.args.delta c.requires.delta_in

  by_center : unmapped_between c.args.low c.args.high c.args.center c.args.delta ≡ unmapped_between c.args.low c.args.high scaled c.args.delta
  by_center = ap (λ v. unmapped_between c.args.low c.args.high v c.args.delta) (sym whole)

  -- the sign, by the scaled prediction
  sign_of : (b : Bool) (v : ℤ) → v ≡ unmapped_between c.args.low c.args.high scaled c.args.delta
      → b ≡ int_lt (pos 2 *ℤ unmapped_between c.args.low c.args.high c.args.center c.args.delta -ℤ c.args.center) (pos 0)
      → b ≡ int_lt (pos 2 *ℤ v -ℤ scaled) (pos 0)
  sign_of b v e h = h ∙ ap₂ (λ u w. int_lt (pos 2 *ℤ u -ℤ w) (pos 0)) (by_center ∙ sym e) (sym whole)

pub returns-then-delta-unsigned_abs-eq0-clause-value : goal.returns-then-delta-unsigned_abs-eq0-clause-value
returns-then-delta-unsigned_abs-eq0-clause-value c =
    let d = (goal.at.returns-then-delta-unsigned_abs-eq0-clause-value c).After-unsigned_abs in
    above d ∙ even_sample _ _ _ _ _ (half d) (least d) (most d) (rw (parity d) at c.if-delta-unsigned_abs-eq0.true) ∙ by_center d

pub returns-then-delta-unsigned_abs-eq0-clause-range : goal.returns-then-delta-unsigned_abs-eq0-clause-range
returns-then-delta-unsigned_abs-eq0-clause-range c =
    let d = (goal.at.returns-then-delta-unsigned_abs-eq0-clause-range c).After-unsigned_abs in
    subst (Between c.args.low c.args.high) (sym (returns-then-delta-unsigned_abs-eq0-clause-value c)) (range d)

pub returns-then-delta-unsigned_abs-eq0-clause-inverse : goal.returns-then-delta-unsigned_abs-eq0-clause-inverse
returns-then-delta-unsigned_abs-eq0-clause-inverse c =
    let d = (goal.at.returns-then-delta-unsigned_abs-eq0-clause-inverse c).After-unsigned_abs in
    ap (mapped_between c.args.low c.args.high (scaled d)) (returns-then-delta-unsigned_abs-eq0-clause-value c) ∙ inverse d

pub returns-then-delta-unsigned_abs-eq0-clause-sign : goal.returns-then-delta-unsigned_abs-eq0-clause-sign
returns-then-delta-unsigned_abs-eq0-clause-sign c =
    let d = (goal.at.returns-then-delta-unsigned_abs-eq0-clause-sign c).After-unsigned_abs in sign_of d _ _ (returns-then-delta-unsigned_abs-eq0-clause-value c)
    (even_sign _ _ _ _ _ (half d) (least d) (most d) (rw (parity d) at c.if-delta-unsigned_abs-eq0.true))

pub returns-else-delta-unsigned_abs-eq0-clause-value : goal.returns-else-delta-unsigned_abs-eq0-clause-value
returns-else-delta-unsigned_abs-eq0-clause-value c =
    let d = (goal.at.returns-else-delta-unsigned_abs-eq0-clause-value c).After-unsigned_abs in
    below d ∙ odd_sample _ _ _ _ _ (half d) (least d) (most d) (rw (parity d) at c.if-delta-unsigned_abs-eq0.false) ∙ by_center d

pub returns-else-delta-unsigned_abs-eq0-clause-range : goal.returns-else-delta-unsigned_abs-eq0-clause-range
returns-else-delta-unsigned_abs-eq0-clause-range c =
    let d = (goal.at.returns-else-delta-unsigned_abs-eq0-clause-range c).After-unsigned_abs in
    subst (Between c.args.low c.args.high) (sym (returns-else-delta-unsigned_abs-eq0-clause-value c)) (range d)

pub returns-else-delta-unsigned_abs-eq0-clause-inverse : goal.returns-else-delta-unsigned_abs-eq0-clause-inverse
returns-else-delta-unsigned_abs-eq0-clause-inverse c =
    let d = (goal.at.returns-else-delta-unsigned_abs-eq0-clause-inverse c).After-unsigned_abs in
    ap (mapped_between c.args.low c.args.high (scaled d)) (returns-else-delta-unsigned_abs-eq0-clause-value c) ∙ inverse d

pub returns-else-delta-unsigned_abs-eq0-clause-sign : goal.returns-else-delta-unsigned_abs-eq0-clause-sign
returns-else-delta-unsigned_abs-eq0-clause-sign c =
    let d = (goal.at.returns-else-delta-unsigned_abs-eq0-clause-sign c).After-unsigned_abs in sign_of d _ _ (returns-else-delta-unsigned_abs-eq0-clause-value c)
    (odd_sign _ _ _ _ _ (half d) (least d) (most d) (rw (parity d) at c.if-delta-unsigned_abs-eq0.false))

pub clipped-requires-clause-order : goal.clipped-requires-clause-order
clipped-requires-clause-order c = search rules

pub unmap_far-requires-clause-low_in : goal.unmap_far-requires-clause-low_in
unmap_far-requires-clause-low_in c = search rules

-- the same by the scaled prediction, wherever in the range the sample is
clipped_is : (c : After-unmap_far)
    → to_z w32 (of_z w32 c.clipped.result) ≡ clip c.args.center (pos 2 *ℤ c.args.low) (pos 2 *ℤ c.args.high +ℤ pos 1)
clipped_is c =
    let fits : SFits w32 c.clipped.result = search rules in
    to_z-of_z fits ∙ simp (to_z-of_z c.ranges.center, to_z-of_z c.ranges.low, to_z-of_z c.ranges.high) at c.clipped.ensures.value

pub returns-then-below-low-clause-value : goal.returns-then-below-low-clause-value
returns-then-below-low-clause-value c = rw (to_z-of_z c.ranges.low, to_z-of_z c.ranges.high, clipped_is c) at c.unmap_far.ensures.value

pub returns-then-below-low-clause-range : goal.returns-then-below-low-clause-range
returns-then-below-low-clause-range c = rw (to_z-of_z c.ranges.low, to_z-of_z c.ranges.high) at c.unmap_far.ensures.range

pub returns-then-below-low-clause-inverse : goal.returns-then-below-low-clause-inverse
returns-then-below-low-clause-inverse c = rw (to_z-of_z c.ranges.low, to_z-of_z c.ranges.high, clipped_is c) at c.unmap_far.ensures.inverse

pub returns-then-below-low-clause-sign : goal.returns-then-below-low-clause-sign
returns-then-below-low-clause-sign c =
    rw (returns-then-below-low-clause-value c) (rw (to_z-of_z c.ranges.low, to_z-of_z c.ranges.high, clipped_is c) at c.unmap_far.ensures.sign)
