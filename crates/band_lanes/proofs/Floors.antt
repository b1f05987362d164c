-- Quotients rounded down, of negated numbers and of sums in two parts.
use Rattle.std.proofs.Common.{◌≡◌, ℕ, zero, suc, ◌*◌, ◌^◌, ◌<◌, ℤ, pos, negsuc, neg_ℤ, ◌+ℤ◌, ◌-ℤ◌, ◌*ℤ◌, arith, refl, sym, ap, ◌∙◌, pow_pos}
use Rattle.std.proofs.lemmas.Int.{ints}
use Rattle.lanes.specs.Lanes.{halved}
use Rattle.sample_prediction.specs.Arithmetic.{floor_div}
use Rattle.sample_prediction.proofs.Floors.{floor_low, floor_high, floor_is, floor_of_sum}

pub halved_is : (a : ℤ) (by : ℕ) → halved a by ≡ floor_div a (2 ^ by)
halved_is (pos a) by = refl
halved_is (negsuc a) by = refl

times_opposite : (n : ℕ) (a : ℤ) → pos n *ℤ neg_ℤ a ≡ neg_ℤ (pos n *ℤ a)
times_opposite n (pos zero) = omega (arith, ints)
times_opposite n (pos (suc k)) = omega (arith, ints)
times_opposite n (negsuc k) = omega (arith, ints)

-- a step to the nearest, halves up, and its opposite, halves down
pub opposite : (a : ℤ) (h : ℕ) → 0 < h → floor_div (neg_ℤ a +ℤ (pos h -ℤ pos 1)) (h * 2) ≡ neg_ℤ (floor_div (a +ℤ pos h) (h * 2))
opposite a h some =
    let under = floor_low (a +ℤ pos h) (h * 2) (omega (arith, some)) in let over = floor_high (a +ℤ pos h) (h * 2) (omega (arith, some)) in
    let e = times_opposite (h * 2) (floor_div (a +ℤ pos h) (h * 2)) in
    floor_is (neg_ℤ a +ℤ (pos h -ℤ pos 1)) (neg_ℤ (floor_div (a +ℤ pos h) (h * 2))) (h * 2) (omega (arith, some))
    (omega (arith, ints, e, over)) (omega (arith, ints, e, under))

-- a sum in whole multiples and a rest
pub of_parts : (omega : ℕ) (sum high low : ℤ) → pos (2 ^ omega) *ℤ high +ℤ low ≡ sum → high +ℤ floor_div low (2 ^ omega) ≡ floor_div sum (2 ^ omega)
of_parts fraction sum high low e =
    let f = floor_of_sum low high (2 ^ fraction) (pow_pos fraction) in
    let s : low +ℤ pos (2 ^ fraction) *ℤ high ≡ sum = omega (arith, ints, e) in
    let g : floor_div sum (2 ^ fraction) ≡ floor_div low (2 ^ fraction) +ℤ high = ap (λ v. floor_div v (2 ^ fraction)) (sym s) ∙ f in omega (arith, ints, g)
