use Rattle.std.proofs.Common.{◌≡◌, ◌+◌, ◌*◌, ◌<◌, ◌≤◌, ℕ, ℤ, pos, ◌+ℤ◌, ◌-ℤ◌, ◌*ℤ◌, ◌≤ℤ◌, unsigned_abs, ◌∙◌, arith, w16, to_z, of_z, to_z-of_z, SFits, rules, refl, int_lt, true, false}
use Rattle.std.proofs.lemmas.Bool.Decides.{nat_tests}
use Rattle.std.proofs.lemmas.Int.{ints}
use Rattle.sample_prediction.specs.Arithmetic.{floor_div}
use Rattle.sample_prediction.specs.Mapping.{unmapped_between, error_of}
use Rattle.sample_prediction.specs.Residual.{theta_between}
use Rattle.sample_prediction.proofs.OneSample.{unmapped_is, sample_in}
use Rattle.wave_inversion.proofs.ErrorNumbers.{far_error, near_error}
use Rattle.wave_inversion.proofs.unmapping.offset_at.Goals as goal
use Rattle.wave_inversion.proofs.unmapping.offset_at.Goals.{After-nearer}

-- the test, as the code makes it
doubled : (t : ℤ) (n : ℕ) → t ≡ pos n → n ≤ 4095 → to_z w16 (of_z w16 (pos 2 *ℤ to_z w16 (of_z w16 t))) ≡ pos (2 * n)
doubled t n e h = omega (arith, ints, e, h)

module _ (c : After-nearer) where
  value_fits : SFits w16 c.half_of-value.result
  value_fits = search rules

  abbrev n : ℕ
  n = unsigned_abs c.args.residual

  abbrev theta : ℕ
  theta = theta_between (pos 0) c.args.greatest c.half_of-value.result

  half : c.half_of-value.result ≡ floor_div c.args.twice 2
  half = simp (to_z-of_z c.ranges.twice) at c.half_of-value.ensures.value

  between : (pos 0 ≤ℤ c.half_of-value.result) × (c.half_of-value.result ≤ℤ c.args.greatest)
  between =
      let low = simp (to_z-of_z c.ranges.twice) at c.half_of-value.ensures.low in let high = simp (to_z-of_z c.ranges.twice) at c.half_of-value.ensures.high in
      let t = c.requires.twice_in in (omega (arith, ints, high, t.0), omega (arith, ints, low, t.1))

  residual_is : c.args.residual ≡ pos n
  residual_is = let r = c.requires.residual_in in omega (arith, ints, r.0)

  theta_is : c.nearer.result ≡ pos theta
  theta_is = simp (to_z-of_z c.ranges.greatest, to_z-of_z value_fits) at c.nearer.ensures.value

  small : theta ≤ 4095
  small = let b = c.nearer.ensures.bound in omega (arith, ints, b, theta_is)

  abbrev doubled_code : ℤ
  doubled_code = to_z w16 (of_z w16 (pos 2 *ℤ to_z w16 (of_z w16 c.nearer.result)))

  beyond : int_lt doubled_code (to_z w16 (of_z w16 c.args.residual)) ≡ true → 2 * theta < n
  beyond e = test (rw (doubled c.nearer.result theta theta_is small, to_z-of_z c.ranges.residual, residual_is) at e)
    where
      test : int_lt (pos (2 * theta)) (pos n) ≡ true → 2 * theta < n
      test e = grind (arith, ints, nat_tests, e)

  within : int_lt doubled_code (to_z w16 (of_z w16 c.args.residual)) ≡ false → n < 2 * theta + 1
  within e = test (rw (doubled c.nearer.result theta theta_is small, to_z-of_z c.ranges.residual, residual_is) at e)
    where
      test : int_lt (pos (2 * theta)) (pos n) ≡ false → n < 2 * theta + 1
      test e = grind (arith, ints, nat_tests, e)

  -- an offset is the predicted one and the error of the number
  by_error : (out : ℤ) → out -ℤ c.half_of-value.result ≡ error_of theta (unsigned_abs (c.half_of-value.result -ℤ pos 0)) (unsigned_abs c.args.twice) n
      → out ≡ unmapped_between (pos 0) c.args.greatest c.args.twice n
  by_error out e =
      back out c.half_of-value.result
      ∙ unmapped_is (pos 0) c.args.greatest c.args.twice c.half_of-value.result (out -ℤ c.half_of-value.result) theta
      (unsigned_abs (c.half_of-value.result -ℤ pos 0)) (unsigned_abs c.args.twice) n half refl refl refl e
    where
      back : (a b : ℤ) → a ≡ b +ℤ (a -ℤ b)
      back a b = omega (arith, ints)

  far_fits : SFits w16 c.far_offset-far.result
  far_fits = search rules

  far : 2 * theta < n → c.far_offset-far.result ≡ unmapped_between (pos 0) c.args.greatest c.args.twice n
  far beyond =
      let f = simp (to_z-of_z c.ranges.greatest, to_z-of_z value_fits, to_z-of_z c.ranges.residual) at c.far_offset-far.ensures in
      by_error c.far_offset-far.result (far_error c.args.greatest c.half_of-value.result theta n between.0 between.1 refl beyond (unsigned_abs c.args.twice)
      c.far_offset-far.result (λ h. f.above h ∙ (omega (arith, ints, residual_is))) (λ h. f.below h ∙ residual_is))

  near : n < 2 * theta + 1 → c.near_offset-near.result ≡ unmapped_between (pos 0) c.args.greatest c.args.twice n
  near within =
      let f = simp (to_z-of_z c.ranges.twice, to_z-of_z value_fits, to_z-of_z c.ranges.residual) at c.near_offset-near.ensures in
      by_error c.near_offset-near.result (near_error c.half_of-value.result theta _ n (unsigned_abs c.args.twice) c.near_offset-near.result within f.even f.odd)

  inside : (out : ℤ) → out ≡ unmapped_between (pos 0) c.args.greatest c.args.twice n → (pos 0 ≤ℤ out) × (out ≤ℤ c.args.greatest)
  inside out e =
      let t = c.requires.twice_in in let r = c.requires.residual_in in
      let b = sample_in (pos 0) c.args.greatest c.args.twice (omega (arith, ints, t.0)) t.1 n (omega (arith, ints, residual_is, r.1)) in rw e b

pub returns-then-residual-nearer-clause-value : goal.returns-then-residual-nearer-clause-value
returns-then-residual-nearer-clause-value c =
    let d = (goal.at.returns-then-residual-nearer-clause-value c).After-nearer in
    to_z-of_z (far_fits d) ∙ far d (beyond d c.if-residual-nearer.true)

pub returns-then-residual-nearer-clause-range : goal.returns-then-residual-nearer-clause-range
returns-then-residual-nearer-clause-range c =
    let d = (goal.at.returns-then-residual-nearer-clause-range c).After-nearer in
    rw (to_z-of_z (far_fits d)) (inside d _ (far d (beyond d c.if-residual-nearer.true)))

pub returns-else-residual-nearer-clause-value : goal.returns-else-residual-nearer-clause-value
returns-else-residual-nearer-clause-value c =
    let d = (goal.at.returns-else-residual-nearer-clause-value c).After-nearer in let fits : SFits w16 c.near_offset-near.result = search rules in
    to_z-of_z fits ∙ near d (within d c.if-residual-nearer.false)

pub returns-else-residual-nearer-clause-range : goal.returns-else-residual-nearer-clause-range
returns-else-residual-nearer-clause-range c =
    let d = (goal.at.returns-else-residual-nearer-clause-range c).After-nearer in let fits : SFits w16 c.near_offset-near.result = search rules in
    rw (to_z-of_z fits) (inside d _ (near d (within d c.if-residual-nearer.false)))
