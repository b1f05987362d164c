-- The range of a kind's samples, as powers of two.
use Rattle.std.proofs.Common.{◌≡◌, ◌*◌, ◌<◌, ◌≤◌, ◌-◌, ◌^◌, ℕ, suc, zero, Bool, true, false, pos, ◌-ℤ◌, ◌≤ℤ◌, arith, pow_pos}
use Rattle.std.proofs.lemmas.Int.{ints}
use Rattle.cube_core.specs.Kind.{SampleKind, IsKind, smin, smax}
use Rattle.cube_core.proofs.Offsets.{doubled}

span_by : (signed : Bool) (bits : ℕ) → 2 ≤ bits
    → smax (record { signed = signed; bits = bits }) -ℤ smin (record { signed = signed; bits = bits }) ≡ pos (2 ^ bits) -ℤ pos 1
span_by true bits h = let e : 2 ^ bits ≡ 2 * 2 ^ (bits - 1) = doubled bits (omega arith) in let p : 0 < 2 ^ (bits - 1) = pow_pos (bits - 1) in
    omega (arith, ints)
span_by false bits h = let p : 0 < 2 ^ bits = pow_pos bits in omega (arith, ints)

-- from the least sample to the greatest
pub span : (k : SampleKind) → IsKind k → smax k -ℤ smin k ≡ pos (2 ^ k.bits) -ℤ pos 1
span k h = span_by k.signed k.bits h.0

by_kind : (signed : Bool) (bits n : ℕ) → n < 2 ^ bits
    → pos n ≤ℤ (smax (record { signed = signed; bits = bits }) -ℤ smin (record { signed = signed; bits = bits }))
by_kind true zero n h = omega (arith, ints, h)
by_kind true (suc bits) n h =
    let e : 2 ^ suc bits ≡ 2 * 2 ^ (suc bits - 1) = doubled (suc bits) (omega arith) in let p : 0 < 2 ^ (suc bits - 1) = pow_pos (suc bits - 1) in
    omega (arith, ints, h)
by_kind false bits n h = let p : 0 < 2 ^ bits = pow_pos bits in omega (arith, ints, h)

-- a number of so many bits is within it
pub below_span : (k : SampleKind) (n : ℕ) → n < 2 ^ k.bits → pos n ≤ℤ (smax k -ℤ smin k)
below_span k n h = by_kind k.signed k.bits n h
