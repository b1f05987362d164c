-- Numbers raised and halved by powers of two in words of 64 bits.
use Rattle.std.proofs.Common.{◌≡◌, ℕ, ◌*◌, ◌%◌, ◌^◌, ◌≤◌, ℤ, pos, negsuc, ◌*ℤ◌, unsigned_abs, arith, w64, SFits, to_z, pow_mono, lt_of_le_of_lt, lit<}
use Rattle.std.proofs.lemmas.Int.{to_z_pos, fits_signed_from_abs, unsigned_abs-mul}
use Rattle.std.proofs.lemmas.Nat.{one_shl, pow_below, mul-le}
use Rattle.std.proofs.Math.Nat.{div-le_self}
use Rattle.sample_prediction.specs.Arithmetic.{floor_div}

pub bit_at_place : (k : ℕ) → k ≤ 22 → to_z w64 ((1 * 2 ^ k) % 2 ^ 64) ≡ pos (2 ^ k)
bit_at_place k h = rw (one_shl k 64 (omega arith)) (to_z_pos w64 (2 ^ k) (pow_below k 63 (omega arith)))

pub SFits-div : (a : ℤ) (d : ℕ) → SFits w64 a → SFits w64 (floor_div a d)
SFits-div (pos a) d f = record { sfits = lt_of_le_of_lt (div-le_self a d) f.sfits }
SFits-div (negsuc a) d f = record { sfits = lt_of_le_of_lt (div-le_self a d) f.sfits }

pub raised_bound : (k : ℕ) (d : ℤ) → k ≤ 19 → unsigned_abs d ≤ 2 ^ 18 → unsigned_abs (pos (2 ^ k) *ℤ d) ≤ 2 ^ 37
raised_bound k d h b = let p : 2 ^ k ≤ 2 ^ 19 = pow_mono h in rw (unsigned_abs-mul (pos (2 ^ k)) d) (mul-le (2 ^ k) (unsigned_abs d) (2 ^ 19) (2 ^ 18) p b)

pub SFits-raised_up : (k : ℕ) (d : ℤ) → k ≤ 19 → unsigned_abs d ≤ 2 ^ 18 → SFits w64 (pos (2 ^ k) *ℤ d)
SFits-raised_up k d h b = fits_signed_from_abs w64 (pos (2 ^ k) *ℤ d) (lt_of_le_of_lt (raised_bound k d h b) (lit< tt))
