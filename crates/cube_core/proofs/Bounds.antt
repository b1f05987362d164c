-- Bounds on the samples of a kind, and on the index of a place.
use Rattle.std.proofs.Common.{◌≡◌, ◌+◌, ◌*◌, ◌<◌, ◌≤◌, ◌-◌, ◌^◌, ℕ, suc, Bool, true, false, pos, ◌≤ℤ◌, ◌-ℤ◌, ◌%◌, to_z, of_z, w32, arith, pow_mono, pow-suc}
use Rattle.std.proofs.Common.{ℤ, negsuc, nat_abs, ◌↔◌, IsTrue, T, refl}
use borrow.Author.Differences.{up, down}
use Rattle.std.specs.Int.Signed.{le_z}
use Rattle.std.proofs.lemmas.Int.{ints, to_z_pos}
use Rattle.std.proofs.lemmas.Nat.{mul-add-lt, one_shl}
use Rattle.cube_core.proofs.Words.{SampleKind, IsKind, smin, smid, smax, index_in}

-- a place's index is below the number of samples
pub index_below : (columns rows bands z y x : ℕ) → z < bands → y < rows → x < columns → index_in columns rows z y x < bands * rows * columns
index_below columns rows bands z y x a b c =
    let p : z * rows + y < rows * bands = mul-add-lt z rows y bands a b in
    let q : (z * rows + y) * columns + x < columns * (rows * bands) = mul-add-lt (z * rows + y) columns x (rows * bands) p c in
    omega (arith, q)

pub power_grows : (i j : ℕ) → i ≤ j → 2 ^ i ≤ 2 ^ j
power_grows i j h = pow_mono h

-- a power, as the code computes it
pub shifted : (k : ℕ) → k ≤ 16 → to_z w32 ((1 * 2 ^ k) % 2 ^ 32) ≡ pos (2 ^ k)
shifted k h = rw (one_shl k 32 (omega arith)) (to_z_pos w32 (2 ^ k) (omega (arith, power_grows k 16 h)))

-- one below a power
pub top_is : (k : ℕ) → k ≤ 16 → to_z w32 (of_z w32 (to_z w32 ((1 * 2 ^ k) % 2 ^ 32) -ℤ pos 1)) ≡ pos (2 ^ k) -ℤ pos 1
top_is k h = rw (shifted k h) (omega (arith, ints, power_grows k 16 h, power_grows 0 k))

pub top_fits : (k : ℕ) → 1 ≤ k → k ≤ 16
    → (pos 1 ≤ℤ to_z w32 (of_z w32 (to_z w32 ((1 * 2 ^ k) % 2 ^ 32) -ℤ pos 1))) × (to_z w32 (of_z w32 (to_z w32 ((1 * 2 ^ k) % 2 ^ 32) -ℤ pos 1)) ≤ℤ pos 65535)
top_fits k a b =
    let p = power_grows k 16 b in let q = power_grows 1 k a in rw (top_is k b) (omega (arith, ints), omega (arith, ints))

middle_by : (signed : Bool) (bits : ℕ) → 2 ≤ bits → bits ≤ 16 → smid (record { signed = signed; bits = bits }) ≤ℤ smax (record { signed = signed; bits = bits })
middle_by true d a b = let p = power_grows 1 (d - 1) (omega arith) in omega (arith, ints)
middle_by false d a b = let p = power_grows (suc (d - 1)) d (omega arith) in let q = power_grows 1 (d - 1) (omega arith) in
    omega (arith, ints, pow-suc 2 (d - 1))

pub middle_inside : (k : SampleKind) → IsKind k → smid k ≤ℤ smax k
middle_inside k h = middle_by k.signed k.bits h.0 h.1

minimum_length_by : (signed : Bool) (bits : ℕ) → smin (record { signed = signed; bits = bits }) ≤ℤ smid (record { signed = signed; bits = bits })
minimum_length_by true bits = omega (arith, ints)
minimum_length_by false bits = omega (arith, ints)

pub least_inside : (k : SampleKind) → smin k ≤ℤ smid k
least_inside k = minimum_length_by k.signed k.bits

-- what two tests of a number say
is_true : (b : Bool) → T b → b ≡ true
is_true true t = refl
is_true false t = absurd t

pub bounded : (least number most : ℤ) → le_z least number ≡ true → IsTrue (le_z number most) ↔ ((least ≤ℤ number) × (number ≤ℤ most))
bounded least number most e = (λ f. (record { le = rw e tt }, record { le = rw f tt }), λ s. is_true _ s.1.le)

-- the size of a number that isn't negative
pub abs_up : (v : ℤ) → pos 0 ≤ℤ v → nat_abs v + down v ≡ up v
abs_up (pos n) h = omega (arith, ints)
abs_up (negsuc n) h = absurd (omega (arith, ints, h))
