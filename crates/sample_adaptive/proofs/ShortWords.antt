-- Short code words in a word that has the next bits.
use Rattle.std.proofs.Common.{◌≡◌, ℕ, zero, suc, ◌+◌, ◌-◌, ◌*◌, ◌/◌, ◌%◌, ◌^◌, ◌<◌, ◌≤◌, Bool, true, false, List, [], ◌∷◌, ◌++◌, drop, replicate, Ok, refl, sym, ap, ◌∙◌}
use Rattle.std.proofs.Common.{append_assoc, arith}
use Rattle.std.specs.Int.{rotate_left, w64}
use Rattle.std.specs.Int.Bits.{bit_or, bit_and, or_zero_l, or_zero_r}
use Rattle.std.specs.Int.Count.{count_leading_zeros}
use Rattle.std.proofs.lemmas.Bool.{lt-ltb}
use Rattle.std.proofs.lemmas.Nat.{or_shr, or_mod, and_mask, and_le_r, pow_below, pow-add, pow_pos, mul-le}
use Rattle.std.proofs.Math.Nat.{pow-succ', div-eq_of_lt, div-lt_iff_lt-mul, mod-eq_of_lt, mod-lt, mul-mod_left}
use Rattle.std.proofs.Math.Pow.{pow_mono}
use Rattle.std.proofs.lemmas.List.{drop-drop}
use Rattle.header_bits.specs.Bits.{bits_of}
use Rattle.header_bits.specs.Reading.{zeros_at}
use Rattle.header_bits.specs.Windows.{IsAhead}
use Rattle.header_bits.proofs.Ahead.{number_ahead}
use Rattle.header_bits.proofs.Numbers.{bits_of-add, bits_of-mod, bits_of_one}
use Rattle.header_bits.proofs.Reading.{zeros_ended}
use Rattle.header_bits.proofs.Windows.{front_dropped, top_is_one}
use Rattle.header_bits.proofs.Words.{highest_shifted, shifted}
use Rattle.sample_adaptive.specs.declared.code_word.Code.{Code}
use Rattle.sample_adaptive.specs.Words.{IsCode}
use Rattle.sample_adaptive.specs.Reading.{word_at, plain_at}

-- a one below the bits that are ahead
pub one_below : (most : ℕ) (bits : List Bool) (word : ℕ) → most ≤ 63 → IsAhead most bits word → IsAhead most bits (bit_or word 1)
one_below most bits word few h = λ n le.
    let none : 1 / 2 ^ (64 - n) ≡ 0 = div-eq_of_lt (pow_below 0 (64 - n) (omega arith)) in
    let same : bit_or word 1 / 2 ^ (64 - n) ≡ word / 2 ^ (64 - n) =
    or_shr word 1 (64 - n) ∙ ap (bit_or (word / 2 ^ (64 - n))) none ∙ or_zero_r (word / 2 ^ (64 - n)) in
    rw same (h n le)

-- fewer bits that are ahead
pub fewer_ahead : (most few : ℕ) (bits : List Bool) (word : ℕ) → few ≤ most → IsAhead most bits word → IsAhead few bits word
fewer_ahead most few bits word le h = λ n within. h n (omega arith)

-- the bits after the first ones
pub ahead_after : (most length : ℕ) (bits : List Bool) (word : ℕ) → most + length ≤ 64 → IsAhead (most + length) bits word
    → IsAhead most (drop length bits) (word * 2 ^ length % 2 ^ 64)
ahead_after most length bits word few h = λ n le.
    let there : ℕ = word / 2 ^ (64 - (length + n)) in
    let rest : List Bool = drop (length + n) bits in
    let split : bits ≡ bits_of length (there / 2 ^ n) ++ (bits_of n there ++ rest) = h (length + n) (omega arith)
    ∙ ap (λ (x : List Bool). x ++ rest) (bits_of-add length n there) ∙ append_assoc (bits_of length (there / 2 ^ n)) (bits_of n there) rest in
    let front : drop length bits ≡ bits_of n there ++ rest = front_dropped length (there / 2 ^ n) bits (bits_of n there ++ rest) split in
    let same : bits_of n ((word * 2 ^ length % 2 ^ 64) / 2 ^ (64 - n)) ≡ bits_of n there =
    ap (bits_of n) (highest_shifted word length n (omega arith)) ∙ bits_of-mod n n there (omega arith) in
    let later : rest ≡ drop n (drop length bits) = sym (drop-drop n length bits) in
    rw same (front ∙ ap (λ (x : List Bool). bits_of n there ++ x) later)

-- the bits after the first ones, where these are turned to the end
pub ahead_turned : (most far : ℕ) (bits : List Bool) (word : ℕ) → 1 ≤ far → far < 64 → most + far ≤ 64 → word < 2 ^ 64 → IsAhead (most + far) bits word
    → IsAhead most (drop far bits) (rotate_left w64 word far)
ahead_turned most far bits word some few le below h = λ n within.
    let front : ℕ = word * 2 ^ far % 2 ^ 64 in
    let back : ℕ = word / 2 ^ (64 - far) in
    let left : far % 64 ≡ far = mod-eq_of_lt few in
    let right : (64 - far) % 64 ≡ 64 - far = mod-eq_of_lt (omega (arith, some)) in
    let is : rotate_left w64 word far ≡ bit_or front back = rw (left, right) refl in
    let all : 64 - far + far ≡ 64 = omega (arith, few) in
    let power : 2 ^ 64 ≡ 2 ^ (64 - far) * 2 ^ far = ap (λ j. 2 ^ j) (sym all) ∙ pow-add 2 (64 - far) far in
    let turned : 2 ^ (64 - far) * 2 ^ far ≡ 2 ^ far * 2 ^ (64 - far) = grind arith in
    let short : back < 2 ^ far = (div-lt_iff_lt-mul (pow_pos (64 - far))).1 (omega (arith, below, power, turned)) in
    let small : 2 ^ far ≤ 2 ^ (64 - n) = pow_mono {i = far} {j = 64 - n} (omega (arith, le, within)) in
    let none : back / 2 ^ (64 - n) ≡ 0 = div-eq_of_lt (omega (arith, short, small)) in
    let same : rotate_left w64 word far / 2 ^ (64 - n) ≡ front / 2 ^ (64 - n) =
    ap (λ x. x / 2 ^ (64 - n)) is ∙ or_shr front back (64 - n) ∙ ap (bit_or (front / 2 ^ (64 - n))) none ∙ or_zero_r (front / 2 ^ (64 - n)) in
    rw same (ahead_after most far bits word le h n within)

-- the zeros that lead the word, and the one after them
run_ahead : (count limit most : ℕ) (bits : List Bool) (word run : ℕ) → word < 2 ^ 64 → most ≤ 64 → IsAhead most bits word → run + 1 ≤ most
    → run ≡ count_leading_zeros 64 word → run < limit → zeros_at count limit bits ≡ Ok (run, drop (run + 1) bits)
run_ahead count limit most bits word run below few h within is lt =
    let one : word / 2 ^ (64 - (run + 1)) ≡ 1 = top_is_one word run below (omega arith) is in
    let front : bits ≡ replicate run false ++ true ∷ drop (run + 1) bits =
    h (run + 1) within ∙ ap (λ (x : List Bool). x ++ drop (run + 1) bits) (ap (bits_of (run + 1)) one ∙ bits_of_one run)
    ∙ append_assoc (replicate run false) (true ∷ []) (drop (run + 1) bits) in
    ap (zeros_at count limit) front ∙ zeros_ended count limit run (drop (run + 1) bits) lt

-- the last bits of a word that a rotation puts at the end
pub low_rotated : (word length k : ℕ) → 1 ≤ length → length < 64 → k ≤ length
    → bit_and (rotate_left w64 word length) (2 ^ k - 1) ≡ word / 2 ^ (64 - length) % 2 ^ k
low_rotated word length k some few le =
    let front : ℕ = word * 2 ^ length % 2 ^ 64 in
    let back : ℕ = word / 2 ^ (64 - length) in
    let left : length % 64 ≡ length = mod-eq_of_lt few in
    let right : (64 - length) % 64 ≡ 64 - length = mod-eq_of_lt (omega arith) in
    let is : rotate_left w64 word length ≡ bit_or front back = rw (left, right) refl in
    let size : length - k + k ≡ length = omega arith in
    let power : 2 ^ length ≡ 2 ^ (length - k) * 2 ^ k = ap (λ j. 2 ^ j) (sym size) ∙ pow-add 2 (length - k) k in
    let product : (word % 2 ^ (64 - length)) * 2 ^ length ≡ (word % 2 ^ (64 - length)) * 2 ^ (length - k) * 2 ^ k = rw power (grind arith) in
    let none : front % 2 ^ k ≡ 0 = ap (λ j. j % 2 ^ k) (shifted word length (omega arith) ∙ product) ∙ mul-mod_left _ (2 ^ k) in
    ap (λ j. bit_and j (2 ^ k - 1)) is ∙ and_mask (bit_or front back) k ∙ or_mod front back k ∙ ap (λ j. bit_or j (back % 2 ^ k)) none ∙ or_zero_l (back % 2 ^ k)

-- a plain form
pub short_ahead : (count index : ℕ) (c : Code) (most : ℕ) (bits : List Bool) (word zeros low : ℕ) → IsCode c → word < 2 ^ 64 → most ≤ 64 → IsAhead most bits word
    → zeros ≡ count_leading_zeros 64 word → zeros < c.limit → zeros + 1 + c.k ≤ most
    → low ≡ word / 2 ^ (64 - (zeros + 1 + c.k)) % 2 ^ c.k → zeros * 2 ^ c.k + low < 2 ^ c.bits
    → word_at count index c bits ≡ Ok (zeros * 2 ^ c.k + low, drop (zeros + 1 + c.k) bits)
unfolding word_at plain_at
short_ahead count index c most bits word zeros low code below few h is lt within later fits =
    rw (
      run_ahead count c.limit most bits word zeros below few h (omega arith) is lt,
      lt-ltb zeros c.limit lt,
      number_ahead count (zeros + 1) c.k most bits word h within,
      sym later,
      lt-ltb (zeros * 2 ^ c.k + low) (2 ^ c.bits) fits,
    )
    refl

-- 2^k as the code computes it, in 64 bits and in 32
pub power_whole : (k : ℕ) → k ≤ 16 → 1 * 2 ^ k % 2 ^ 64 ≡ 2 ^ k
power_whole k le =
    let few : 2 ^ k ≤ 2 ^ 16 = pow_mono le in
    let one : 1 * 2 ^ k ≡ 2 ^ k = omega arith in
    rw one (mod-eq_of_lt (omega (arith, few)))

pub power_whole_32 : (k : ℕ) → k ≤ 16 → 1 * 2 ^ k % 2 ^ 32 ≡ 2 ^ k
power_whole_32 k le =
    let few : 2 ^ k ≤ 2 ^ 16 = pow_mono le in
    let one : 1 * 2 ^ k ≡ 2 ^ k = omega arith in
    rw one (mod-eq_of_lt (omega (arith, few)))

-- fewer zeros than the least number that is too large
pub short_fits : (zeros most k bits low : ℕ) → zeros < most → most * 2 ^ k ≤ 2 ^ bits → low < 2 ^ k → zeros * 2 ^ k + low < 2 ^ bits
short_fits zeros most k bits low lt le few =
    let more : (zeros + 1) * 2 ^ k ≡ zeros * 2 ^ k + 2 ^ k = grind arith in
    let product = mul-le (zeros + 1) (2 ^ k) most (2 ^ k) (omega (arith, lt)) (omega arith) in
    omega (arith, more, product, few, le)

-- what stands at the front, in the code's words
pub short_taken : (count index : ℕ) (c : Code) (bits : List Bool) (word zeros power length most : ℕ) → IsCode c → word < 2 ^ 64 → length < 64
    → IsAhead length bits word → zeros ≡ count_leading_zeros 64 word → power ≡ 2 ^ c.k → zeros < most → most ≤ c.limit → most ≤ length - c.k
    → most * 2 ^ c.k ≤ 2 ^ c.bits
    → word_at count index c bits ≡ Ok (zeros * power + bit_and (rotate_left w64 word (zeros + 1 + c.k)) (power - 1), drop (zeros + 1 + c.k) bits)
short_taken count index c bits word zeros power length most code below fit_word h is power_is lt limit short fits =
    let some : zeros + 1 + c.k ≤ length = omega (arith, lt, short) in
    let low : ℕ = word / 2 ^ (64 - (zeros + 1 + c.k)) % 2 ^ c.k in
    let last : bit_and (rotate_left w64 word (zeros + 1 + c.k)) (2 ^ c.k - 1) ≡ low =
    low_rotated word (zeros + 1 + c.k) c.k (omega arith) (omega (arith, some, fit_word)) (omega arith) in
    let fit : zeros * 2 ^ c.k + low < 2 ^ c.bits =
    short_fits zeros most c.k c.bits low lt fits (mod-lt (word / 2 ^ (64 - (zeros + 1 + c.k))) (pow_pos c.k)) in
    rw (power_is, last) (short_ahead count index c length bits word zeros low code below (omega (arith, fit_word)) h is (omega (arith, lt, limit)) some refl fit)

pub short_below : (c : Code) (zeros power most x : ℕ) → IsCode c → power ≡ 2 ^ c.k → zeros < most → most * 2 ^ c.k ≤ 2 ^ c.bits
    → zeros * power + bit_and x (power - 1) < 65536
short_below c zeros power most x code is lt fits =
    let some = pow_pos c.k in
    let few : 2 ^ c.bits ≤ 2 ^ 16 = pow_mono code.bits in
    let low : bit_and x (power - 1) < 2 ^ c.k = omega (arith, and_le_r x (power - 1), is, some) in
    let product : zeros * power ≡ zeros * 2 ^ c.k = ap (λ p. zeros * p) is in
    omega (arith, product, few, short_fits zeros most c.k c.bits (bit_and x (power - 1)) lt fits low)

-- words of at most D + 2 bits
twice_as_many : (j : ℕ) → j + 4 ≤ 2 ^ (j + 2)
twice_as_many zero = omega arith
twice_as_many (suc j) =
    let e : suc j + 2 ≡ suc (j + 2) = omega arith in
    rw (e, pow-succ' 2 (j + 2)) (omega (arith, twice_as_many j))

pub few_zeros_fit : (c : Code) (zeros power most x : ℕ) → power ≡ 2 ^ c.k → c.k + 2 ≤ c.bits → most ≤ c.bits + 2 → zeros + 1 + c.k ≤ most
    → zeros * power + bit_and x (power - 1) < 2 ^ c.bits
few_zeros_fit c zeros power most x is inside few some =
    let some_bits = pow_pos c.k in
    let low : bit_and x (power - 1) < 2 ^ c.k = omega (arith, and_le_r x (power - 1), is, some_bits) in
    let product : zeros * power ≡ zeros * 2 ^ c.k = ap (λ p. zeros * p) is in
    let size : c.bits - c.k - 2 + 2 ≡ c.bits - c.k = omega (arith, inside) in
    let many : c.bits - c.k - 2 + 4 ≤ 2 ^ (c.bits - c.k) = rw size at (twice_as_many (c.bits - c.k - 2)) in
    let whole : c.bits - c.k + c.k ≡ c.bits = omega (arith, inside) in
    let power_whole : 2 ^ c.bits ≡ 2 ^ (c.bits - c.k) * 2 ^ c.k = ap (λ j. 2 ^ j) (sym whole) ∙ pow-add 2 (c.bits - c.k) c.k in
    let fits = short_fits zeros (2 ^ (c.bits - c.k)) c.k c.bits (bit_and x (power - 1)) (omega (arith, many, inside, few, some)) (omega (arith, power_whole)) low in
    omega (arith, product, fits)

-- what stands at the front, where no word of its length is of a number too large
pub word_taken : (count index : ℕ) (c : Code) (bits : List Bool) (word zeros power length : ℕ) → IsCode c → word < 2 ^ 64 → length < 64
    → IsAhead length bits word → zeros ≡ count_leading_zeros 64 word → power ≡ 2 ^ c.k → zeros < c.limit → zeros + 1 + c.k ≤ length
    → c.k + 2 ≤ c.bits → length ≤ c.bits + 2
    → word_at count index c bits ≡ Ok (zeros * power + bit_and (rotate_left w64 word (zeros + 1 + c.k)) (power - 1), drop (zeros + 1 + c.k) bits)
word_taken count index c bits word zeros power length code below fit_word h is power_is lt some inside few =
    let low : ℕ = word / 2 ^ (64 - (zeros + 1 + c.k)) % 2 ^ c.k in
    let last : bit_and (rotate_left w64 word (zeros + 1 + c.k)) (2 ^ c.k - 1) ≡ low =
    low_rotated word (zeros + 1 + c.k) c.k (omega arith) (omega (arith, some, fit_word)) (omega arith) in
    let fits : zeros * 2 ^ c.k + low < 2 ^ c.bits =
    rw last at (few_zeros_fit c zeros (2 ^ c.k) length (rotate_left w64 word (zeros + 1 + c.k)) refl inside few some) in
    rw (power_is, last) (short_ahead count index c length bits word zeros low code below (omega (arith, fit_word)) h is lt some refl fits)

-- one word fewer of those that are ahead
pub one_fewer : (few taken most : ℕ) → taken < few → (few - taken) * most ≡ (few - (taken + 1)) * most + most
one_fewer few taken most lt = let e : few - taken ≡ few - (taken + 1) + 1 = omega (arith, lt) in rw e (grind arith)
