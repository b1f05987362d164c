-- Words of 64 bits: shifted, joined, and as bytes.
use Rattle.std.proofs.Common.{◌≡◌, ℕ, zero, suc, ◌+◌, ◌-◌, ◌*◌, ◌/◌, ◌%◌, ◌^◌, ◌<◌, ◌≤◌, Bool, List, ◌++◌, length, get_or, take, bit_or, refl, sym, ap, ◌∙◌}
use Rattle.std.proofs.Common.{arith}
use Rattle.std.specs.Int.{w64, to_be_bytes, from_be_bytes, bytes_high_first, byte_at}
use Rattle.std.proofs.lemmas.Nat.{pow_pos, pow-add, or_shifted, mod-pow-add, mod-mul-add, shl-shr, shr-shr, shl_whole, field_of, be_bytes_8}
use Rattle.std.proofs.lemmas.List.{take_at}
use Rattle.std.proofs.Math.Nat.{pow-succ'}
use Rattle.header_bits.specs.Bits.{bits_of, bits_of_bytes}
use Rattle.header_bits.proofs.Numbers.{no_bits, length-bits_of, bits_of-add, bits_of-mod, bits_of-join}
use Rattle.header_bits.proofs.Bytes.{bits_of_bytes-take}

-- what is shifted out of a word
pub shifted : (v n : ℕ) → n ≤ 64 → v * 2 ^ n % 2 ^ 64 ≡ (v % 2 ^ (64 - n)) * 2 ^ n
shifted v n le =
    let size : (64 - n) + n ≡ 64 = omega arith in
    let whole : v * 2 ^ n ≡ v * 2 ^ n + 0 = omega arith in
    let low : v * 2 ^ n % 2 ^ n ≡ 0 = ap (λ k. k % 2 ^ n) whole ∙ mod-mul-add v (2 ^ n) 0 (pow_pos n) in
    let parts : v * 2 ^ n % 2 ^ ((64 - n) + n) ≡ (v * 2 ^ n / 2 ^ n % 2 ^ (64 - n)) * 2 ^ n + v * 2 ^ n % 2 ^ n = mod-pow-add (v * 2 ^ n) (64 - n) n in
    let high : v * 2 ^ n / 2 ^ n ≡ v = shl-shr v n in
    ap (λ k. v * 2 ^ n % 2 ^ k) (sym size) ∙ parts ∙ rw (high, low) (omega arith)

-- `(part << n) | bits`, of which the lowest bits are the part's and then the new ones
pub pushed_after : (held n part bits : ℕ) → bits < 2 ^ n → held + n ≤ 64
    → bits_of (held + n) (bit_or (part * 2 ^ n % 2 ^ 64) bits) ≡ bits_of held part ++ bits_of n bits
pushed_after held n part bits lt fits =
    let small : n ≤ 64 = omega arith in
    let kept : held ≤ 64 - n = omega arith in
    let whole : bit_or (part * 2 ^ n % 2 ^ 64) bits ≡ (part % 2 ^ (64 - n)) * 2 ^ n + bits =
    ap (λ k. bit_or k bits) (shifted part n small) ∙ or_shifted (part % 2 ^ (64 - n)) n bits lt in
    ap (bits_of (held + n)) whole ∙ bits_of-join held n (part % 2 ^ (64 - n)) bits lt
    ∙ ap (λ (x : List Bool). x ++ bits_of n bits) (bits_of-mod held (64 - n) part kept)

-- a number of n bits in two parts, the second of which ends the word before
pub two_parts : (held n bits : ℕ) → held < 64 → 64 - held ≤ n
    → bits_of (64 - held) (bits / 2 ^ (n - (64 - held))) ++ bits_of (n - (64 - held)) bits ≡ bits_of n bits
two_parts held n bits lt le =
    let size : (64 - held) + (n - (64 - held)) ≡ n = omega arith in
    sym (bits_of-add (64 - held) (n - (64 - held)) bits) ∙ ap (λ k. bits_of k bits) size

power_of_bytes : (k : ℕ) → 256 ^ k ≡ 2 ^ (8 * k)
power_of_bytes zero = refl
power_of_bytes (suc k) =
    let size : 8 * suc k ≡ 8 + 8 * k = omega arith in
    let more : 2 ^ (8 + 8 * k) ≡ 256 * 2 ^ (8 * k) = pow-add 2 8 (8 * k) in
    let front : 256 ^ suc k ≡ 256 * 256 ^ k = pow-succ' 256 k in
    front ∙ ap (λ x. 256 * x) (power_of_bytes k) ∙ sym more ∙ ap (λ j. 2 ^ j) (sym size)

byte_is : (k n : ℕ) → byte_at k n ≡ n / 2 ^ (8 * k) % 2 ^ 8
byte_is zero n = ap (λ x. x % 256) (omega arith)
byte_is (suc k) n = ap (λ x. n / x % 256) (power_of_bytes (suc k))

pub bits_of_high_first : (k n : ℕ) → bits_of_bytes (bytes_high_first k n) ≡ bits_of (8 * k) n
unfolding bits_of_bytes
bits_of_high_first zero n = sym (no_bits n)
bits_of_high_first (suc k) n =
    let size : 8 * suc k ≡ 8 + 8 * k = omega arith in
    let first : bits_of 8 (byte_at k n) ≡ bits_of 8 (n / 2 ^ (8 * k)) = ap (bits_of 8) (byte_is k n) ∙ bits_of-mod 8 8 (n / 2 ^ (8 * k)) (omega arith) in
    ap (λ (x : List Bool). x ++ bits_of_bytes (bytes_high_first k n)) first ∙ ap (λ (x : List Bool). bits_of 8 (n / 2 ^ (8 * k)) ++ x) (bits_of_high_first k n)
    ∙ sym (bits_of-add 8 (8 * k) n) ∙ ap (λ j. bits_of j n) (sym size)

-- a word's bytes have its bits
pub bits_of_word : (n : ℕ) → bits_of_bytes (to_be_bytes w64 n) ≡ bits_of 64 n
bits_of_word n = bits_of_high_first 8 n

-- and back
pub bits_of_eight : (bytes : List ℕ) (n : ℕ) → length bytes ≡ 8 → ((i : ℕ) → get_or bytes i 0 < 256) → n ≡ from_be_bytes w64 bytes
    → bits_of_bytes bytes ≡ bits_of 64 n
bits_of_eight bytes n len small is = ap bits_of_bytes (sym (be_bytes_8 bytes n len small is)) ∙ bits_of_word n

-- a word's highest bits
pub highest_bits : (n v : ℕ) → n ≤ 64 → bits_of 64 v ≡ bits_of n (v / 2 ^ (64 - n)) ++ bits_of (64 - n) v
highest_bits n v le =
    let size : n + (64 - n) ≡ 64 = omega arith in
    ap (λ k. bits_of k v) (sym size) ∙ bits_of-add n (64 - n) v

-- the first bytes of a word that a part's bits were shifted to
pub part_shifted : (held part : ℕ) → held < 64 → held % 8 ≡ 0
    → bits_of_bytes (take (held / 8) (to_be_bytes w64 (part * 2 ^ (64 - held) % 2 ^ 64))) ≡ bits_of held part
part_shifted held part lt whole =
    let word : ℕ = part * 2 ^ (64 - held) % 2 ^ 64 in
    let size : 8 * (held / 8) ≡ held = omega arith in
    let le : held ≤ 64 = omega arith in
    let all : held + (64 - held) ≡ 64 = omega arith in
    let back : word / 2 ^ (64 - held) ≡ part % 2 ^ held = ap (λ k. part * 2 ^ (64 - held) % 2 ^ k / 2 ^ (64 - held)) (sym all)
    ∙ field_of (part * 2 ^ (64 - held)) held (64 - held) ∙ ap (λ k. k % 2 ^ held) (shl-shr part (64 - held)) in
    bits_of_bytes-take (held / 8) (to_be_bytes w64 word) ∙ ap (λ k. take k (bits_of_bytes (to_be_bytes w64 word))) size
    ∙ ap (take held) (bits_of_word word ∙ highest_bits held word le)
    ∙ take_at (bits_of held (word / 2 ^ (64 - held))) (bits_of (64 - held) word) held (length-bits_of held (word / 2 ^ (64 - held)))
    ∙ ap (bits_of held) back ∙ bits_of-mod held held part (omega arith)

-- the highest bits of a word that was shifted by r are those r bits further down
pub highest_shifted : (v r n : ℕ) → r + n ≤ 64 → (v * 2 ^ r % 2 ^ 64) / 2 ^ (64 - n) ≡ v / 2 ^ (64 - (r + n)) % 2 ^ n
highest_shifted v r n le =
    let all : n + (64 - n) ≡ 64 = omega arith in
    let rest : r + (64 - (r + n)) ≡ 64 - n = omega arith in
    let down : v * 2 ^ r / 2 ^ (64 - n) ≡ v / 2 ^ (64 - (r + n)) =
    ap (λ k. v * 2 ^ r / 2 ^ k) (sym rest) ∙ sym (shr-shr (v * 2 ^ r) r (64 - (r + n))) ∙ ap (λ k. k / 2 ^ (64 - (r + n))) (shl-shr v r) in
    ap (λ k. v * 2 ^ r % 2 ^ k / 2 ^ (64 - n)) (sym all) ∙ field_of (v * 2 ^ r) n (64 - n) ∙ ap (λ k. k % 2 ^ n) down

-- `(high << n) | low`
pub joined_is : (high low j n : ℕ) → high < 2 ^ j → low < 2 ^ n → j + n ≤ 64 → bit_or (high * 2 ^ n % 2 ^ 64) low ≡ high * 2 ^ n + low
joined_is high low j n h l fits = rw (shl_whole high j n 64 h fits) (or_shifted high n low l)

pub joined_below : (high low j n : ℕ) → high < 2 ^ j → low < 2 ^ n → high * 2 ^ n + low < 2 ^ (j + n)
joined_below high low j n h l = rw (pow-add 2 j n) (omega (arith, row))
  where
    row : high * 2 ^ n + 2 ^ n ≤ 2 ^ j * 2 ^ n
    row = grind (arith, h)
