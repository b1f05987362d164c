use Rattle.std.proofs.Common.{◌≡◌, ◌^◌, ◌*◌, ◌/◌, ◌<◌, ◌≤◌, ℤ, pos, negsuc, ◌-ℤ◌, ◌≤ℤ◌, unsigned_abs, w32, to_z, of_z, arith, rules}
use Rattle.std.proofs.lemmas.Int.{ints}
use lib.Signed.{shr_z}
use Rattle.predict_core.proofs.forward.chain.sign_mask_of_error.Goals as goal

-- a word shifted right by all its bits but the sign
signs : (v : ℤ) → unsigned_abs v < 2 ^ 31 → (negsuc 0 ≤ℤ to_z w32 (of_z w32 (shr_z v 2147483648))) × (to_z w32 (of_z w32 (shr_z v 2147483648)) ≤ℤ pos 0)
signs (pos n) h = let e : n / 2147483648 ≡ 0 = omega (arith, h) in rw e (omega (arith, ints), omega (arith, ints))
signs (negsuc n) h = let e : n / 2147483648 ≡ 0 = omega (arith, h) in rw e (omega (arith, ints), omega (arith, ints))

word_within : (own predicted : ℤ) → unsigned_abs own ≤ 2 ^ 18 → unsigned_abs predicted ≤ 18 * 2 ^ 20
    → unsigned_abs (to_z w32 (of_z w32 (to_z w32 (of_z w32 (to_z w32 (of_z w32 own) -ℤ pos 1)) -ℤ to_z w32 (of_z w32 predicted)))) < 2 ^ 31
word_within own predicted h k = omega (arith, ints, h, k)

pub returns-clause-value : goal.returns-clause-value
returns-clause-value c = search rules

pub returns-clause-low : goal.returns-clause-low
returns-clause-low c = (signs _ (word_within c.args.own c.args.predicted c.requires.own_in c.requires.predicted_in)).0

pub returns-clause-high : goal.returns-clause-high
returns-clause-high c = (signs _ (word_within c.args.own c.args.predicted c.requires.own_in c.requires.predicted_in)).1
