-- Sums of two products, and sums in two parts.
use Rattle.std.proofs.Common.{◌≡◌, ℕ, ◌+◌, ◌-◌, ◌*◌, ◌^◌, ◌<◌, ◌≤◌, ℤ, pos, negsuc, ◌+ℤ◌, ◌*ℤ◌, ◌≤ℤ◌, unsigned_abs, List, arith, ap₂, pow_mono, SFits, w16}
use Rattle.std.specs.Int.{int_rem_euclid}
use Rattle.std.proofs.lemmas.Int.{ints, unsigned_abs-mul}
use Rattle.std.proofs.lemmas.Nat.{mul-le, pow_pos}
use Rattle.lanes.specs.Lanes.{lane, pair_sum, halved}
use Rattle.std.proofs.lemmas.Nat.{div-add-mod'}
use Rattle.std.proofs.Math.Nat.{mod-lt}
use Rattle.sample_prediction.proofs.Floors.{floor_within, times_sum}
use Rattle.sample_prediction.specs.Arithmetic.{floor_div}
use Rattle.band_lanes.specs.Sums.{IsSplit}
use Rattle.band_lanes.proofs.Floors.{halved_is}

pub same_pair : (a b x y : List ℤ) (k : ℕ) → ((i : ℕ) → lane a i ≡ lane x i) → ((i : ℕ) → lane b i ≡ lane y i) → pair_sum a b k ≡ pair_sum x y k
same_pair a b x y k f g =
    ap₂ (λ p q. p +ℤ q) (ap₂ (λ p q. p *ℤ q) (f (2 * k)) (g (2 * k))) (ap₂ (λ p q. p *ℤ q) (f (2 * k + 1)) (g (2 * k + 1)))

product_in : (w u : ℤ) → SFits w16 w → unsigned_abs u < 2 ^ 14 → unsigned_abs (w *ℤ u) ≤ 2 ^ 15 * (2 ^ 14 - 1)
product_in w u f h =
    let l : unsigned_abs w ≤ 2 ^ 15 = (let p = f.sfits in omega (arith, ints, p)) in
    rw (unsigned_abs-mul w u) (mul-le (unsigned_abs w) (unsigned_abs u) (2 ^ 15) (2 ^ 14 - 1) l (omega (arith, h)))

pub pair_in : (a b : List ℤ) (k : ℕ) → ((i : ℕ) → SFits w16 (lane a i)) → k < 8 → ((i : ℕ) → i < 16 → unsigned_abs (lane b i) < 2 ^ 14)
    → unsigned_abs (pair_sum a b k) < 2 ^ 30
pair_in a b k f l h =
    let p = product_in (lane a (2 * k)) (lane b (2 * k)) (f (2 * k)) (h (2 * k) (omega arith)) in
    let q = product_in (lane a (2 * k + 1)) (lane b (2 * k + 1)) (f (2 * k + 1)) (h (2 * k + 1) (omega arith)) in omega (arith, ints, p, q)

full_product_in : (w u : ℤ) → SFits w16 w → unsigned_abs u < 2 ^ 15 → unsigned_abs (w *ℤ u) ≤ 2 ^ 15 * (2 ^ 15 - 1)
full_product_in w u f h =
    let l : unsigned_abs w ≤ 2 ^ 15 = (let p = f.sfits in omega (arith, ints, p)) in
    rw (unsigned_abs-mul w u) (mul-le (unsigned_abs w) (unsigned_abs u) (2 ^ 15) (2 ^ 15 - 1) l (omega (arith, h)))

-- two products of numbers of 16 bits still fit into 32
pub full_pair_in : (a b : List ℤ) (k : ℕ) → ((i : ℕ) → SFits w16 (lane a i)) → k < 8 → ((i : ℕ) → i < 16 → unsigned_abs (lane b i) < 2 ^ 15)
    → unsigned_abs (pair_sum a b k) < 2 ^ 31
full_pair_in a b k f l h =
    let p = full_product_in (lane a (2 * k)) (lane b (2 * k)) (f (2 * k)) (h (2 * k) (omega arith)) in
    let q = full_product_in (lane a (2 * k + 1)) (lane b (2 * k + 1)) (f (2 * k + 1)) (h (2 * k + 1) (omega arith)) in omega (arith, ints, p, q)

-- a number's multiples of a divisor and what is left
rest_is : (a : ℤ) (n : ℕ) → 0 < n → (pos n *ℤ floor_div a n +ℤ int_rem_euclid a (pos n) ≡ a) × (int_rem_euclid a (pos n) ≤ℤ pos n)
    × (pos 0 ≤ℤ int_rem_euclid a (pos n))
rest_is (pos a) n h = let e = div-add-mod' a n in let l = mod-lt a h in (omega (arith, ints, e), omega (arith, ints, l), omega (arith, ints))
rest_is (negsuc a) n h =
    let e = div-add-mod' a n in let l = mod-lt a h in (omega (arith, ints, e, l, h), omega (arith, ints, l, h), omega (arith, ints, l, h))

apart : (n : ℕ) (high part low rest sum number : ℤ) → pos n *ℤ high +ℤ low ≡ sum → pos n *ℤ part +ℤ rest ≡ number
    → pos n *ℤ (high +ℤ part) +ℤ (low +ℤ rest) ≡ sum +ℤ number
apart n high part low rest sum number e f = let t = times_sum n high part in omega (arith, ints, e, f, t)

-- a sum of one number more
pub one_more : (omega n : ℕ) (sum high low number : ℤ) → 4 ≤ omega → omega ≤ 13 → n < 12 → unsigned_abs number ≤ 2 ^ 31 → IsSplit omega n sum high low
    → IsSplit omega (n + 1) (sum +ℤ number) (high +ℤ halved number omega) (low +ℤ int_rem_euclid number (pos (2 ^ omega)))
one_more fraction n sum high low number least most few small h =
    let r = rest_is number (2 ^ fraction) (pow_pos fraction) in let top : 2 ^ fraction ≤ 2 ^ 13 = pow_mono most in
    let bottom : 2 ^ 4 ≤ 2 ^ fraction = pow_mono least in
    let f : unsigned_abs (floor_div number (2 ^ fraction)) ≤ 2 ^ 27 =
    floor_within number (2 ^ 27) (2 ^ fraction) (pow_pos fraction) (omega (arith, small, mul-le (2 ^ 27) (2 ^ 4) (2 ^ 27) (2 ^ fraction) (omega arith) bottom)) in
    rw (halved_is number fraction) (record {
      value = apart (2 ^ fraction) high (floor_div number (2 ^ fraction)) low (int_rem_euclid number (pos (2 ^ fraction))) sum number h.value r.0;
      high_in = omega (arith, ints, f, h.high_in);
      low_least = omega (arith, ints, h.low_least, r.2);
      low_most = omega (arith, ints, h.low_most, r.1, top);
    })

pub none : (omega : ℕ) → IsSplit omega 0 (pos 0) (pos 0) (pos 0)
none fraction = record { value = omega (arith, ints); high_in = omega arith; low_least = omega (arith, ints); low_most = omega (arith, ints) }
