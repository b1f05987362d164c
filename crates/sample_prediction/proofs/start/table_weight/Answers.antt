use Rattle.std.proofs.Common.{◌≡◌, ◌≤◌, ◌+◌, ◌-◌, ◌^◌, pos, ℕ, ℤ, ◌+ℤ◌, ◌*ℤ◌, SFits, to_z, of_z, to_z-of_z, w32, refl}
use Rattle.sample_prediction.specs.Weights.{table_weight}
use Rattle.sample_prediction.proofs.Tables.{power_fits, ones_fit, scale_small, weight_fits, product_fits, table_small, weight_is}
use Rattle.sample_prediction.proofs.start.table_weight.Goals as goal

plain : (e r : ℤ) (k : ℕ) → SFits w32 e → k ≤ 21 → r ≡ pos (2 ^ k) → to_z w32 (of_z w32 e) *ℤ to_z w32 (of_z w32 r) ≡ e *ℤ pos (2 ^ k)
plain e r k f s v = rw (v, to_z-of_z f, to_z-of_z (power_fits k s)) refl

module _ (c : goal.After-ones_below) where
  whole : to_z w32 (of_z w32 (to_z w32 (of_z w32 c.args.entry) *ℤ to_z w32 (of_z w32 c.power-scale.result))) +ℤ to_z w32 (of_z w32 c.ones_below.result)
      ≡ table_weight c.args.omega c.args.q c.args.entry
  whole =
      let o = ones_fit c.args.omega c.args.q c.requires.omega_in.1 in
      let product = product_fits c.args.omega c.args.q c.args.entry c.requires.omega_in.1 c.requires.bits.0 c.requires.bits.1 c.requires.signed in
      let scaled = plain c.args.entry c.power-scale.result (c.args.omega + 3 - c.args.q) c.ranges.entry
      (scale_small c.args.omega c.args.q c.requires.omega_in.1 c.requires.bits.0) c.power-scale.ensures.value in
      rw (scaled, to_z-of_z product, c.ones_below.ensures.value, to_z-of_z o)
      (weight_is c.args.omega c.args.q c.args.entry c.requires.omega_in.1 c.requires.bits.0 c.requires.bits.1 c.requires.signed)

  fits : SFits w32 (table_weight c.args.omega c.args.q c.args.entry)
  fits = weight_fits c.args.omega c.args.q c.args.entry c.requires.omega_in.1 c.requires.bits.0 c.requires.bits.1 c.requires.signed

pub overflow_mul-result : goal.overflow_mul-result
overflow_mul-result c =
    rw (plain c.args.entry c.power-scale.result (c.args.omega + 3 - c.args.q) c.ranges.entry
    (scale_small c.args.omega c.args.q c.requires.omega_in.1 c.requires.bits.0) c.power-scale.ensures.value)
    (product_fits c.args.omega c.args.q c.args.entry c.requires.omega_in.1 c.requires.bits.0 c.requires.bits.1 c.requires.signed)

pub overflow_add-result : goal.overflow_add-result
overflow_add-result c = rw (whole c) (fits c)

pub returns-clause-value : goal.returns-clause-value
returns-clause-value c = rw (whole c) (to_z-of_z (fits c))

pub returns-clause-bound : goal.returns-clause-bound
returns-clause-bound c = rw (whole c, to_z-of_z (fits c)) (table_small _ _ _ c.requires.bits.0 c.requires.bits.1 c.requires.signed)
