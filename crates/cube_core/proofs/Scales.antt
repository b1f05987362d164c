-- The offset of a number, found modulo 2^16.
use Rattle.std.proofs.Common.{◌≡◌, ◌⊎◌, ◌↔◌, ◌+◌, ◌*◌, ◌%◌, ◌<◌, ◌≤◌, ◌-◌, ◌^◌, ℕ, Bool, true, false, ℤ, pos, negsuc, ◌+ℤ◌, ◌-ℤ◌, arith, inl, inr}
use Rattle.std.proofs.lemmas.Bool.Decides.{nat_tests}
use Rattle.cube_core.proofs.Words.{SampleKind, IsKind, IsSample, sample_of, smax, twos_complement, raw_code, half_of, zero_offset, number_of_rebased, ints}
use Rattle.cube_core.proofs.Bounds.{power_grows}
use Rattle.cube_core.proofs.Offsets.{doubled}

-- a number rebased by half of all numbers is half above what it stands for
rebased_one : (number : ℕ) → number < 256 → twos_complement true 1 number ≡ pos ((number + 128) % 256) -ℤ pos 128
rebased_one number h = grind (arith, ints, nat_tests)

rebased_two : (number : ℕ) → number < 65536 → twos_complement true 2 number ≡ pos ((number + 32768) % 65536) -ℤ pos 32768
rebased_two number h = grind (arith, ints, nat_tests)

abbrev Stands : SampleKind → ℕ → ℤ → Type 0
Stands k offset v = (offset < 2 ^ k.bits → sample_of k offset ≡ v) × (IsSample k v → offset < 2 ^ k.bits)

biased : (bits half bias t : ℕ) → 2 ≤ bits → bits ≤ 16 → half ≤ 32768 → t < 2 * half → bias < 65536 → (bias + half) % 65536 ≡ 2 ^ (bits - 1)
    → Stands (record { signed = true; bits = bits }) ((t + bias) % 65536) (pos t -ℤ pos half)
biased bits half bias t a b c d e f =
    let twice : 2 ^ bits ≡ 2 * 2 ^ (bits - 1) = doubled bits (omega arith) in
    let most : 2 ^ (bits - 1) ≤ 2 ^ 15 = power_grows (bits - 1) 15 (omega arith) in
    (λ lt. omega (arith, ints), λ s. omega (arith, ints, s.0, s.1))

plain : (bits bias t : ℕ) → t < 65536 → bias < 65536 → (bias + 0) % 65536 ≡ 0 → Stands (record { signed = false; bits = bits }) ((t + bias) % 65536) (pos t)
plain bits bias t a b c =
    let none : bias ≡ 0 = omega arith in
    (λ lt. omega (arith, ints), λ s. omega (arith, ints, s.0, s.1))

stands_by : (signed : Bool) (bits bytes number half bias rebased : ℕ) → 2 ≤ bits → bits ≤ 16 → (bytes ≡ 1) ⊎ (bytes ≡ 2) → number < 2 ^ (8 * bytes)
    → half ≡ half_of signed bytes → bias < 65536 → (bias + half) % 65536 ≡ zero_offset (record { signed = signed; bits = bits })
    → rebased ≡ (number + half) % 2 ^ (8 * bytes)
    → Stands (record { signed = signed; bits = bits }) ((rebased + bias) % 65536) (twos_complement signed bytes number)
stands_by true bits bytes number half bias rebased a b (inl e) n h l z t =
    let small : number < 256 = rw e at n in
    let half_is : half ≡ 128 = rw e at h in
    let rebased_is : rebased ≡ (number + 128) % 256 = rw (e, half_is) at t in
    let below : rebased < 2 * half = omega arith in
    let v : twos_complement true bytes number ≡ pos rebased -ℤ pos half = rw (e, rebased_is, half_is) (rebased_one number small) in
    rw v (biased bits half bias rebased a b (omega arith) below l z)
stands_by true bits bytes number half bias rebased a b (inr e) n h l z t =
    let small : number < 65536 = rw e at n in
    let half_is : half ≡ 32768 = rw e at h in
    let rebased_is : rebased ≡ (number + 32768) % 65536 = rw (e, half_is) at t in
    let below : rebased < 2 * half = omega arith in
    let v : twos_complement true bytes number ≡ pos rebased -ℤ pos half = rw (e, rebased_is, half_is) (rebased_two number small) in
    rw v (biased bits half bias rebased a b (omega arith) below l z)
stands_by false bits bytes number half bias rebased a b (inl e) n h l z t =
    let small : number < 256 = rw e at n in
    let rebased_is : rebased ≡ (number + 0) % 256 = rw (e, h) at t in
    let same : rebased ≡ number = omega arith in
    rw same (plain bits bias number (omega arith) l (rw h at z))
stands_by false bits bytes number half bias rebased a b (inr e) n h l z t =
    let small : number < 65536 = rw e at n in
    let rebased_is : rebased ≡ (number + 0) % 65536 = rw (e, h) at t in
    let same : rebased ≡ number = omega arith in
    rw same (plain bits bias number (omega arith) l (rw h at z))

pub stands : (k : SampleKind) (bytes number half bias rebased : ℕ) → IsKind k → (bytes ≡ 1) ⊎ (bytes ≡ 2) → number < 2 ^ (8 * bytes)
    → half ≡ half_of k.signed bytes → bias < 65536 → (bias + half) % 65536 ≡ zero_offset k → rebased ≡ (number + half) % 2 ^ (8 * bytes)
    → Stands k ((rebased + bias) % 65536) (twos_complement k.signed bytes number)
stands k bytes number half bias rebased a = stands_by k.signed k.bits bytes number half bias rebased a.0 a.1

-- the offset of 0 less half of all numbers, and that of the greatest sample
pub zero_at : (signed : Bool) (bits offset half : ℕ) → sample_of (record { signed = signed; bits = bits }) offset ≡ pos 0 → offset < 65536 → half ≤ 65536
    → ((offset + (65536 - half)) % 65536 + half) % 65536 ≡ zero_offset (record { signed = signed; bits = bits })
zero_at true bits offset half e a b = let same : offset ≡ 2 ^ (bits - 1) = omega (arith, ints, e) in rw (← same) (omega arith)
zero_at false bits offset half e a b = let same : offset ≡ 0 = omega (arith, ints, e) in rw same (omega arith)

pub most_at : (signed : Bool) (bits offset : ℕ) → 1 ≤ bits
    → sample_of (record { signed = signed; bits = bits }) offset ≡ smax (record { signed = signed; bits = bits }) → offset + 1 ≡ 2 ^ bits
most_at true bits offset h e = omega (arith, ints, e, doubled bits h)
most_at false bits offset h e = omega (arith, ints, e)

-- a rebased number of one byte, as the code finds it
pub one_number : (signed : Bool) (half rebased : ℕ) → half ≡ half_of signed 1 → (rebased + (65536 - half)) % 65536 % 256 ≡ number_of_rebased signed 1 rebased
one_number true half rebased e = rw e (omega arith)
one_number false half rebased e = rw e (omega arith)

-- an offset rebased by a bias, as the code finds it
abbrev taken_off : ℕ → ℕ → ℕ
taken_off offset bias = (offset + (65536 - bias)) % 65536

-- it fits in bytes where the sample does, and is half above it
abbrev Rebased : ℕ → SampleKind → ℕ → ℕ → Type 0
Rebased bytes k offset t = ((t < 2 ^ (8 * bytes)) ↔ IsSample (record { signed = k.signed; bits = 8 * bytes }) (sample_of k offset))
    × (t < 2 ^ (8 * bytes) → raw_code bytes (sample_of k offset) ≡ number_of_rebased k.signed bytes t)

coded_one : (v : ℤ) (t : ℕ) → v +ℤ pos 128 ≡ pos t → t < 256 → raw_code 1 v ≡ (t + 128) % 256
coded_one (pos n) t e h = omega (arith, ints, e)
coded_one (negsuc n) t e h = omega (arith, ints, e)

coded_two : (v : ℤ) (t : ℕ) → v +ℤ pos 32768 ≡ pos t → t < 65536 → raw_code 2 v ≡ (t + 32768) % 65536
coded_two (pos n) t e h = omega (arith, ints, e)
coded_two (negsuc n) t e h = omega (arith, ints, e)

rebased_by : (signed : Bool) (bits bytes offset half bias : ℕ) → (bytes ≡ 1) ⊎ (bytes ≡ 2) → 2 ^ bits ≡ 2 * 2 ^ (bits - 1) → 2 ^ bits ≤ 2 ^ 16
    → offset < 2 ^ bits → half ≡ half_of signed bytes → bias < 65536 → (bias + half) % 65536 ≡ zero_offset (record { signed = signed; bits = bits })
    → Rebased bytes (record { signed = signed; bits = bits }) offset (taken_off offset bias)
rebased_by true bits bytes offset half bias (inl e) twice most h f l z =
    let half_is : half ≡ 128 = rw e at f in
    let v = sample_of (record { signed = true; bits = bits }) offset in
    rw e ((λ t. omega (arith, ints), λ s. omega (arith, ints, s)), λ t. coded_one v (taken_off offset bias) (omega (arith, ints)) t)
rebased_by true bits bytes offset half bias (inr e) twice most h f l z =
    let half_is : half ≡ 32768 = rw e at f in
    let v = sample_of (record { signed = true; bits = bits }) offset in
    rw e ((λ t. omega (arith, ints), λ s. omega (arith, ints, s)), λ t. coded_two v (taken_off offset bias) (omega (arith, ints)) t)
rebased_by false bits bytes offset half bias (inl e) twice most h f l z = rw e ((λ t. omega (arith, ints), λ s. omega (arith, ints, s)), λ t. omega arith)
rebased_by false bits bytes offset half bias (inr e) twice most h f l z = rw e ((λ t. omega (arith, ints), λ s. omega (arith, ints, s)), λ t. omega arith)

pub rebased_is : (k : SampleKind) (bytes offset half bias : ℕ) → IsKind k → (bytes ≡ 1) ⊎ (bytes ≡ 2) → offset < 2 ^ k.bits → half ≡ half_of k.signed bytes
    → bias < 65536 → (bias + half) % 65536 ≡ zero_offset k → Rebased bytes k offset (taken_off offset bias)
rebased_is k bytes offset half bias kind width =
    rebased_by k.signed k.bits bytes offset half bias width (doubled k.bits (omega (arith, kind))) (power_grows k.bits 16 kind.1)
