use Rattle.std.proofs.Common.{◌≡◌, ◌∙◌, ◌^◌, ◌≤◌, ℕ, ℤ, pos, ◌-ℤ◌, ◌≤ℤ◌, w16, w32, to_z, of_z, SFits, to_z-of_z, arith, ap, pow_mono}
use Rattle.std.proofs.lemmas.Int.{ints, fits_signed_from_abs}
use Rattle.cube_core.specs.Kind.{smin, smax}
use Rattle.sample_prediction.specs.declared.sample_limits.SampleLimits.{SampleLimits}
use Rattle.sample_prediction.proofs.Spans.{span}
use Rattle.wave_inversion.proofs.forms.greatest_of.Goals as goal

module _ (r : SampleLimits) (few : r.kind.bits ≤ 12) where
  abbrev span_of : ℤ
  span_of = to_z w32 (of_z w32 (to_z w32 (of_z w32 r.smax) -ℤ to_z w32 (of_z w32 r.smin)))

  wide : span_of ≡ smax r.kind -ℤ smin r.kind
  wide = let low = r.low in let high = r.high in rw (← r.smin_is, ← r.smax_is) (omega (arith, ints, low.0, low.1, high.0, high.1))

  powers : smax r.kind -ℤ smin r.kind ≡ pos (2 ^ r.kind.bits) -ℤ pos 1
  powers = span r.kind r.lawful

  bounds : (pos 1 ≤ℤ (smax r.kind -ℤ smin r.kind)) × ((smax r.kind -ℤ smin r.kind) ≤ℤ pos 4095)
  bounds =
      let least : 2 ^ 2 ≤ 2 ^ r.kind.bits = pow_mono r.lawful.0 in let most : 2 ^ r.kind.bits ≤ 2 ^ 12 = pow_mono few in
      (omega (arith, ints, powers, least), omega (arith, ints, powers, most))

  fits : SFits w16 span_of
  fits = rw wide (fits_signed_from_abs w16 (smax r.kind -ℤ smin r.kind) (omega (arith, ints, bounds.0, bounds.1)))

  width : to_z w16 (of_z w16 span_of) ≡ smax r.kind -ℤ smin r.kind
  width = to_z-of_z fits ∙ wide

pub overflow_cast-result : goal.overflow_cast-result
overflow_cast-result c = fits c.args.range.now c.requires

pub returns-clause-value : goal.returns-clause-value
returns-clause-value c = rw (width c.args.range.now c.requires) (omega (arith, ints))

pub returns-clause-bounds : goal.returns-clause-bounds
returns-clause-bounds c = rw (width c.args.range.now c.requires) (bounds c.args.range.now c.requires)

pub returns-clause-power : goal.returns-clause-power
returns-clause-power c =
    let same = ap (λ (n : ℕ). 2 ^ n) c.args.range.now.bits_is in let p = powers c.args.range.now c.requires in
    rw (width c.args.range.now c.requires) (omega (arith, ints, p, same))
