-- The laws of a number's bits.
use Rattle.std.proofs.Common.{◌≡◌, ℕ, zero, suc, ◌+◌, ◌*◌, ◌/◌, ◌%◌, ◌^◌, ◌<◌, ◌≤◌, Bool, true, false, eqb, List, [], ◌∷◌, ◌++◌, length, take, drop, replicate}
use Rattle.std.proofs.Common.{refl, sym, ap, ◌∙◌, arith, lit<}
use Rattle.std.proofs.lemmas.List.{take_at, drop_at}
use Rattle.std.proofs.lemmas.Nat.{pow_pos, same_from_place, div-mul-add, mod-mul-add, shr-shr, shr_split}
use Rattle.std.proofs.lemmas.Nat.Bits.{bit_at_cat_low}
use Rattle.std.proofs.Math.Nat.{mod-lt, mod-eq_of_lt, div-eq_of_lt, pow-succ'}
use Rattle.std.proofs.Math.Arith.{mod-mul}
use Rattle.header_bits.specs.Bits.{bits_of, weight_of, number_of, fundamental}

pub length-bits_of : (n v : ℕ) → length (bits_of n v) ≡ n
unfolding bits_of
length-bits_of zero v = refl
length-bits_of (suc n) v = ap suc (length-bits_of n v)

pub no_bits : (v : ℕ) → bits_of 0 v ≡ []
unfolding bits_of
no_bits v = refl

-- the bits above the b lowest, and the b lowest
pub bits_of-add : (a b v : ℕ) → bits_of (a + b) v ≡ bits_of a (v / 2 ^ b) ++ bits_of b v
unfolding bits_of
bits_of-add zero b v = ap (λ n. bits_of n v) (omega arith)
bits_of-add (suc a) b v =
    let e : suc a + b ≡ suc (a + b) = omega arith in
    let swapped : b + a ≡ a + b = omega arith in
    let h : v / 2 ^ b / 2 ^ a ≡ v / 2 ^ (a + b) = shr-shr v b a ∙ ap (λ k. v / 2 ^ k) swapped in
    ap (λ n. bits_of n v) e ∙ rw h (ap (λ (bs : List Bool). eqb (v / 2 ^ (a + b) % 2) 1 ∷ bs) (bits_of-add a b v))

-- what lies above the bits doesn't matter
pub bits_of-low : (n m a v : ℕ) → n ≤ m → bits_of n (a * 2 ^ m + v) ≡ bits_of n v
unfolding bits_of
bits_of-low zero m a v le = refl
bits_of-low (suc n) m a v le =
    let lt : n < m = omega arith in
    rw (bit_at_cat_low a m v n lt, bits_of-low n m a v (omega arith)) refl

pub bits_of-mod : (n m v : ℕ) → n ≤ m → bits_of n (v % 2 ^ m) ≡ bits_of n v
bits_of-mod n m v le = sym (bits_of-low n m (v / 2 ^ m) (v % 2 ^ m) le) ∙ ap (bits_of n) (shr_split v m)

-- one number after another
pub bits_of-join : (a b u v : ℕ) → v < 2 ^ b → bits_of (a + b) (u * 2 ^ b + v) ≡ bits_of a u ++ bits_of b v
bits_of-join a b u v lt =
    bits_of-add a b (u * 2 ^ b + v) ∙ rw (div-mul-add u (2 ^ b) v lt, bits_of-low b b u v (omega arith)) refl

pub high_bit : (n v : ℕ) → v % 2 ^ suc n ≡ (v / 2 ^ n % 2) * 2 ^ n + v % 2 ^ n
high_bit n v = ap (λ (k : ℕ). v % k) (pow-succ' 2 n) ∙ mod-mul v (lit< tt) (pow_pos n)

bit_weight : (d exponent : ℕ) → d < 2 → weight_of (eqb d 1) exponent ≡ d * 2 ^ exponent
bit_weight zero exponent h = omega arith
bit_weight (suc zero) exponent h = omega arith
bit_weight (suc (suc d)) exponent h = absurd (omega arith)

-- the low bits of a number spell it, up to the power above them
pub number_of-bits_of : (n v : ℕ) → number_of (bits_of n v) ≡ v % 2 ^ n
unfolding bits_of number_of
number_of-bits_of zero v = omega arith
number_of-bits_of (suc n) v =
    let small : v / 2 ^ n % 2 < 2 = mod-lt (v / 2 ^ n) (lit< tt) in
    rw (length-bits_of n v, number_of-bits_of n v, bit_weight (v / 2 ^ n % 2) n small) (sym (high_bit n v))

-- numbers that agree below the power have the same low bits
pub same_bits : (n v w : ℕ) → v % 2 ^ n ≡ w % 2 ^ n → bits_of n v ≡ bits_of n w
unfolding bits_of
same_bits zero v w e = refl
same_bits (suc n) v w e =
    let p = same_from_place (v / 2 ^ n % 2) (v % 2 ^ n) (w / 2 ^ n % 2) (w % 2 ^ n) (2 ^ n) (mod-lt v (pow_pos n)) (mod-lt w (pow_pos n))
    (sym (high_bit n v) ∙ e ∙ high_bit n w) in
    rw (p.0, same_bits n v w p.1) refl

pub number_below : (bs : List Bool) → number_of bs < 2 ^ length bs
unfolding number_of
number_below [] = lit< tt
number_below (true ∷ bs) = omega (arith, number_below bs, pow-succ' 2 (length bs))
number_below (false ∷ bs) = omega (arith, number_below bs, pow-succ' 2 (length bs))

top_bit : (b : Bool) (n x : ℕ) → x < 2 ^ n → eqb ((weight_of b n + x) / 2 ^ n % 2) 1 ≡ b
top_bit true n x lt =
    let e : 2 ^ n + x ≡ 1 * 2 ^ n + x = omega arith in
    rw (e, div-mul-add 1 (2 ^ n) x lt) refl
top_bit false n x lt =
    let e : 0 + x ≡ 0 * 2 ^ n + x = omega arith in
    rw (e, div-mul-add 0 (2 ^ n) x lt) refl

low_part : (b : Bool) (n x : ℕ) → x < 2 ^ n → (weight_of b n + x) % 2 ^ n ≡ x % 2 ^ n
low_part true n x lt =
    let e : 2 ^ n + x ≡ 1 * 2 ^ n + x = omega arith in
    rw (e, mod-mul-add 1 (2 ^ n) x lt, mod-eq_of_lt lt) refl
low_part false n x lt =
    let e : 0 + x ≡ x = omega arith in
    rw e refl

-- bits are those of the number that they spell
pub bits_of-number_of : (bs : List Bool) → bits_of (length bs) (number_of bs) ≡ bs
unfolding bits_of number_of
bits_of-number_of [] = refl
bits_of-number_of (b ∷ bs) =
    rw (
      top_bit b (length bs) (number_of bs) (number_below bs),
      same_bits (length bs) (weight_of b (length bs) + number_of bs) (number_of bs) (low_part b (length bs) (number_of bs) (number_below bs)),
      bits_of-number_of bs,
    ) refl

-- the number of n bits, and what follows them, where they stand in front
pub taken_is : (n v : ℕ) (old new : List Bool) → v < 2 ^ n → old ≡ bits_of n v ++ new → (v ≡ number_of (take n old)) × (new ≡ drop n old)
taken_is n v old new lt e =
    let front : take n old ≡ bits_of n v = ap (take n) e ∙ take_at (bits_of n v) new n (length-bits_of n v) in
    let back : drop n old ≡ new = ap (drop n) e ∙ drop_at (bits_of n v) new n (length-bits_of n v) in
    let whole : number_of (take n old) ≡ v % 2 ^ n = ap number_of front ∙ number_of-bits_of n v in
    (sym (whole ∙ mod-eq_of_lt lt), sym back)

pub bits_of_zero : (n : ℕ) → bits_of n 0 ≡ replicate n false
unfolding bits_of
bits_of_zero zero = refl
bits_of_zero (suc n) = rw (bits_of_zero n) (ap (λ (k : ℕ). eqb (k % 2) 1 ∷ replicate n false) (div-eq_of_lt (pow_pos n)))

one_bit : bits_of 1 1 ≡ true ∷ []
unfolding bits_of
one_bit = refl

-- one, after zeros
pub bits_of_one : (n : ℕ) → bits_of (n + 1) 1 ≡ replicate n false ++ true ∷ []
bits_of_one n = bits_of-add n 1 1 ∙ ap (λ (k : ℕ). bits_of n k ++ bits_of 1 1) (omega arith) ∙ ap (λ (x : List Bool). x ++ bits_of 1 1) (bits_of_zero n)
    ∙ ap (λ (x : List Bool). replicate n false ++ x) one_bit

pub fundamental_is : (m : ℕ) → fundamental m ≡ replicate m false ++ true ∷ []
unfolding fundamental
fundamental_is zero = refl
fundamental_is (suc m) = ap (λ (bs : List Bool). false ∷ bs) (fundamental_is m)

-- a fundamental sequence is a one in m + 1 bits
pub bits_of-fundamental : (m : ℕ) → bits_of (m + 1) 1 ≡ fundamental m
bits_of-fundamental m = bits_of_one m ∙ sym (fundamental_is m)
