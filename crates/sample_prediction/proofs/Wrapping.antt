-- A register of r bits, by two shifts of a 64-bit number.
use Rattle.std.proofs.Common.{◌≡◌, ℕ, suc, ◌+◌, ◌-◌, ◌*◌, ◌/◌, ◌%◌, ◌^◌, ◌<◌, ◌≤◌, ℤ, pos, negsuc, ◌+ℤ◌, ◌-ℤ◌, ltb, refl, sym, ap, ◌∙◌, arith, w64, SFits, to_z}
use Rattle.std.proofs.Common.{of_z, inl, inr, lt-ltb, mul-le-mul_right, mul_comm, le-ltb, true, false, pow-suc, pow_pos, lt_of_le_of_lt}
use Rattle.std.proofs.Common.{mul-lt-mul_of_pos_right, div-add-mod'}
use Rattle.std.proofs.Math.Arith.{digits_mod, digits_div}
use Rattle.std.proofs.Math.Pow.{pow-add}
use Rattle.std.proofs.Math.Nat.{mul-div_cancel, mod-lt, mod-add-mod}
use Rattle.std.proofs.lemmas.Bool.{cases_lt}
use Rattle.std.proofs.lemmas.Int.{ints, int_rem_euclid_is}
use Rattle.std.specs.Int.{int_rem_euclid}
use lib.Signed.{shr_z, mag_shr}
use mir.Val.{sel}
use Rattle.sample_prediction.specs.Arithmetic.{wrapped}

pub remainder_is : (n d q r : ℕ) → r < d → n ≡ q * d + r → n % d ≡ r
remainder_is n d q r h e = rw e (digits_mod q h)

pub quotient_is : (n d q r : ℕ) → r < d → n ≡ q * d + r → n / d ≡ q
quotient_is n d q r h e = rw e (digits_div q h)

-- the two shifts of the low bits q, put below the top of 64 bits, give q as a signed number
shifted_back : (H K q : ℕ) → 0 < K → q < H + H
    → shr_z (sel (ltb (q * K) (H * K)) (pos (q * K)) (negsuc ((H + H) * K - suc (q * K)))) K ≡ pos ((q + H) % (H + H)) -ℤ pos H
shifted_back H K q k b = elim (cases_lt q H) [ inl h ↦ low h | inr h ↦ high h ]
  where
    low : q < H → shr_z (sel (ltb (q * K) (H * K)) (pos (q * K)) (negsuc ((H + H) * K - suc (q * K)))) K ≡ pos ((q + H) % (H + H)) -ℤ pos H
    low h =
        let t : ltb (q * K) (H * K) ≡ true = lt-ltb (q * K) (H * K) (omega (arith, mul-le-mul_right K h)) in
        let e : (q + H) % (H + H) ≡ q + H = remainder_is (q + H) (H + H) 0 (q + H) (omega arith) (omega arith) in
        rw (t, e, mul-div_cancel q k) (omega (arith, ints))

    high : H ≤ q → shr_z (sel (ltb (q * K) (H * K)) (pos (q * K)) (negsuc ((H + H) * K - suc (q * K)))) K ≡ pos ((q + H) % (H + H)) -ℤ pos H
    high h =
        let f : ltb (q * K) (H * K) ≡ false = le-ltb (q * K) (H * K) (mul-le-mul_right K h) in
        let e : (q + H) % (H + H) ≡ q - H = remainder_is (q + H) (H + H) 1 (q - H) (omega arith) (omega arith) in
        let p : ℕ = H + H - suc q in let whole : (H + H) * K ≡ (p + suc q) * K = ap (λ n. n * K) (omega arith) in
        let d : ((H + H) * K - suc (q * K)) / K ≡ p = quotient_is ((H + H) * K - suc (q * K)) K p (K - 1) (omega arith) (omega (arith, whole)) in
        rw (f, e, d) (omega (arith, ints))

-- the bits of a number are it, up to a multiple of 2 ^ 64
bits_of_z : (H K : ℕ) (v : ℤ) → (H + H) * K ≡ 2 ^ 64 → 0 < H + H → SFits w64 v → int_rem_euclid (v +ℤ pos H) (pos (H + H)) ≡ pos ((of_z w64 v + H) % (H + H))
bits_of_z H K (pos a) e h f = refl
bits_of_z H K (negsuc a) e h f =
    int_rem_euclid_is (negsuc a +ℤ pos H) (pos (H + H)) (H + H) K (of_z w64 (negsuc a) + H) h refl (omega (arith, ints, e, f.sfits, mul_comm K (H + H)))

-- the power below a register's size, and the room above it
powers : (r : ℕ) → 32 ≤ r → r ≤ 64 → (2 ^ r ≡ 2 ^ (r - 1) + 2 ^ (r - 1)) × (2 ^ (r - 1) * 2 ^ (64 - r) ≡ 2 ^ 63)
powers r low high =
    let e : r ≡ suc (r - 1) = omega arith in let double : 2 ^ r ≡ 2 ^ (r - 1) * 2 = ap (λ k. 2 ^ k) e ∙ pow-suc 2 (r - 1) in
    let s : (r - 1) + (64 - r) ≡ 63 = omega arith in (omega (arith, double), sym (pow-add 2 (r - 1) (64 - r)) ∙ ap (λ k. 2 ^ k) s)

pub by_shifts : (r : ℕ) (v : ℤ) → SFits w64 v → 32 ≤ r → r ≤ 64 → shr_z (to_z w64 ((of_z w64 v * 2 ^ (64 - r)) % 2 ^ 64)) (2 ^ (64 - r)) ≡ wrapped r v
unfolding wrapped
by_shifts r v f low high =
    let H : ℕ = 2 ^ (r - 1) in let K : ℕ = 2 ^ (64 - r) in let double : 2 ^ r ≡ H + H = (powers r low high).0 in
    let top : H * K ≡ 2 ^ 63 = (powers r low high).1 in let all : (H + H) * K ≡ 2 ^ 64 = omega (arith, top) in
    let h : 0 < H = pow_pos (r - 1) in let k : 0 < K = pow_pos (64 - r) in let u : ℕ = of_z w64 v in
    let q : ℕ = u % (H + H) in let below : q < H + H = mod-lt u (omega arith) in
    let cut : (u * K) % 2 ^ 64 ≡ q * K =
    rw (← all) (remainder_is (u * K) ((H + H) * K) (u / (H + H)) (q * K) (mul-lt-mul_of_pos_right below k)
    (ap (λ n. n * K) (sym (div-add-mod' u (H + H))) ∙ omega arith)) in
    let same : (q + H) % (H + H) ≡ (u + H) % (H + H) = mod-add-mod u (H + H) H in
    rw double (rw (bits_of_z H K v all (omega arith) f, ← same, cut) (rw (← top, ← all) (shifted_back H K q k below)))

pub SFits-to_z : (n : ℕ) → n < 2 ^ 64 → SFits w64 (to_z w64 n)
SFits-to_z n h = search (arith, ints)

pub SFits-shr : (n k : ℕ) → n < 2 ^ 64 → SFits w64 (shr_z (to_z w64 n) k)
SFits-shr n k h = record { sfits = lt_of_le_of_lt (mag_shr (to_z w64 n) k) (SFits-to_z n h).sfits }
