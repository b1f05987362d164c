-- How far the exponent of the steps stays the same.
use Rattle.std.proofs.Common.{◌≡◌, ℕ, ◌+◌, ◌-◌, ◌*◌, ◌/◌, ◌%◌, ◌^◌, ◌<◌, ◌≤◌, ℤ, pos, negsuc, ◌+ℤ◌, ◌-ℤ◌, ◌≤ℤ◌, ◌<ℤ◌, arith, refl, sym, ap, ◌∙◌, pow_pos}
use Rattle.std.proofs.Common.{pow_mono}
use Rattle.std.proofs.lemmas.Int.{ints, clamps}
use Rattle.std.proofs.Math.Nat.{div-mul-le_self, lt-div-mul-add, mod-eq_of_lt}
use Rattle.sample_prediction.specs.Arithmetic.{floor_div, clip}
use Rattle.sample_prediction.specs.Weights.{growth, step_exponent}
use Rattle.sample_prediction.specs.declared.predictor.Predictor.{Predictor}

-- the end of an interval
pub interval_end : (l t q : ℕ) → l ≤ 11 → t < 2 ^ 32 → q ≡ t / 2 ^ l → t < (q + 1) * 2 ^ l % 2 ^ 64
interval_end l t q h k e =
    let low = div-mul-le_self t (2 ^ l) in let high : t < t / 2 ^ l * 2 ^ l + 2 ^ l = lt-div-mul-add (pow_pos l) in
    let p : 2 ^ l ≤ 2 ^ 11 = pow_mono h in let fits : (t / 2 ^ l + 1) * 2 ^ l < 2 ^ 64 = omega (arith, low, p) in
    rw (e, mod-eq_of_lt fits) (omega (arith, high))

below_zero : (a : ℤ) (n : ℕ) → a <ℤ pos 0 → floor_div a n <ℤ pos 0
below_zero (pos a) n h = absurd (omega (arith, ints, h))
below_zero (negsuc a) n h = omega (arith, ints)

held_low : (v low high : ℤ) → low ≤ℤ high → v <ℤ pos 0 → clip (low +ℤ v) low high ≡ low
held_low v low high h k = omega (arith, ints, clamps)

in_first_row : (p : Predictor) (columns t : ℕ) → p.vmin ≤ℤ p.vmax → t < columns → growth p columns t ≡ p.vmin
unfolding growth
in_first_row p columns t h k = held_low _ p.vmin p.vmax h (below_zero (pos t -ℤ pos columns) (2 ^ p.interval_log) (omega (arith, ints)))

after_first_row : (p : Predictor) (columns t : ℕ) → columns ≤ t → growth p columns t ≡ clip (p.vmin +ℤ pos ((t - columns) / 2 ^ p.interval_log)) p.vmin p.vmax
unfolding growth
after_first_row p columns t h = let e : pos t -ℤ pos columns ≡ pos (t - columns) = omega (arith, ints) in rw e refl

pub alike_in_first_row : (p : Predictor) (columns bits t k : ℕ) → p.vmin ≤ℤ p.vmax → t + k < columns
    → step_exponent p columns bits (t + k) ≡ step_exponent p columns bits t
unfolding step_exponent
alike_in_first_row p columns bits t k h l = rw (in_first_row p columns (t + k) h l, in_first_row p columns t h (omega arith)) refl

pub alike_later : (p : Predictor) (columns bits t k : ℕ) → columns ≤ t
    → clip (p.vmin +ℤ pos ((t - columns + k) / 2 ^ p.interval_log)) p.vmin p.vmax ≡ clip (p.vmin +ℤ pos ((t - columns) / 2 ^ p.interval_log)) p.vmin p.vmax
    → step_exponent p columns bits (t + k) ≡ step_exponent p columns bits t
unfolding step_exponent
alike_later p columns bits t k h e =
    let s : t + k - columns ≡ t - columns + k = omega arith in let m : columns ≤ t + k = omega arith in
    ap (λ v. v +ℤ pos bits -ℤ pos p.omega) (after_first_row p columns (t + k) m ∙ ap (λ n. clip (p.vmin +ℤ pos (n / 2 ^ p.interval_log)) p.vmin p.vmax) s
    ∙ e ∙ sym (after_first_row p columns t h))

-- from where the exponent is the greatest
pub alike_at_most : (low high : ℤ) (a b : ℕ) → low ≤ℤ high → high ≤ℤ (low +ℤ pos a) → a ≤ b → clip (low +ℤ pos b) low high ≡ clip (low +ℤ pos a) low high
alike_at_most low high a b h k l = omega (arith, ints, clamps)
