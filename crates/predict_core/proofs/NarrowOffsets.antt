-- Scaled predictions of offsets in 16 bits.
use Rattle.std.proofs.Common.{◌≡◌, ℤ, pos, ◌+ℤ◌, ◌*ℤ◌, ◌≤ℤ◌, arith}
use Rattle.std.proofs.lemmas.Int.{ints, clamps}
use Rattle.lanes.specs.Lanes.{held}
use Rattle.sample_prediction.specs.Arithmetic.{floor_div, clip}
use Rattle.sample_prediction.proofs.Floors.{floor_low, floor_high}

held_between : (greatest total half held_half : ℤ) → pos 1 ≤ℤ greatest → greatest ≤ℤ pos 8191
    → (pos 2 *ℤ half) ≤ℤ total → (total +ℤ pos 1) ≤ℤ (pos 2 *ℤ half +ℤ pos 2)
    → (pos 2 *ℤ held_half) ≤ℤ held total → (held total +ℤ pos 1) ≤ℤ (pos 2 *ℤ held_half +ℤ pos 2)
    → clip (held_half +ℤ pos 1) (pos 0) (pos 2 *ℤ greatest +ℤ pos 1) ≡ clip (half +ℤ pos 1) (pos 0) (pos 2 *ℤ greatest +ℤ pos 1)
held_between greatest total half held_half some few a b d e = omega (arith, ints, clamps, some, few, a, b, d, e)

-- what 16 bits hold of a sum leads to the same scaled prediction
pub held_clipped : (greatest total : ℤ) → pos 1 ≤ℤ greatest → greatest ≤ℤ pos 8191
    → clip (floor_div (held total) 2 +ℤ pos 1) (pos 0) (pos 2 *ℤ greatest +ℤ pos 1)
    ≡ clip (floor_div total 2 +ℤ pos 1) (pos 0) (pos 2 *ℤ greatest +ℤ pos 1)
held_clipped greatest total some few =
    held_between greatest total (floor_div total 2) (floor_div (held total) 2) some few (floor_low total 2 (omega arith)) (floor_high total 2 (omega arith))
    (floor_low (held total) 2 (omega arith)) (floor_high (held total) 2 (omega arith))
