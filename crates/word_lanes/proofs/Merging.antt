-- Neighbours of words side by side, merged into one.
use Rattle.std.proofs.Common.{◌≡◌, ℕ, zero, suc, ◌+◌, ◌*◌, ◌%◌, ◌^◌, ◌<◌, ◌≤◌, ◌++◌, List, [], Bool, refl, sym, ap, ap₂, ◌∙◌, append_assoc, append-nil, length, arith}
use Rattle.std.proofs.lemmas.List.{length-append}
use Rattle.std.proofs.lemmas.Nat.{mul-le, pow-add}
use Rattle.std.proofs.Math.Nat.{mod-eq_of_lt}
use Rattle.std.proofs.Math.Pow.{pow_mono}
use Rattle.header_bits.specs.Bits.{bits_of}
use Rattle.header_bits.proofs.Numbers.{bits_of-join, length-bits_of}
use Rattle.lanes.specs.Lanes.{number}
use Rattle.word_lanes.specs.declared.eight_words.EightWords.{EightWords}
use Rattle.word_lanes.specs.EightWords.{AreShort, AreWords, ArePairs, texts, word_text}

pub both_below : (a b u v : ℕ) → u < 2 ^ a → v < 2 ^ b → u * 2 ^ b + v < 2 ^ (a + b)
both_below a b u v p q =
    let most = mul-le (u + 1) (2 ^ b) (2 ^ a) (2 ^ b) (omega (arith, p)) (omega arith) in
    let next : (u + 1) * 2 ^ b ≡ u * 2 ^ b + 2 ^ b = grind arith in
    omega (arith, q, most, next, pow-add 2 a b)

-- within 64 bits nothing of the first is lost
pub both_whole : (a b u v : ℕ) → a + b ≤ 64 → u < 2 ^ a → v < 2 ^ b → (u * 2 ^ b % 18446744073709551616 ≡ u * 2 ^ b) × (u * 2 ^ b + v < 18446744073709551616)
both_whole a b u v few p q =
    let power : 2 ^ (a + b) ≤ 2 ^ 64 = pow_mono few in
    let below = both_below a b u v p q in
    (mod-eq_of_lt (omega (arith, below, power)), omega (arith, below, power))

-- a number of so many bits, which are those of two others
pub record IsMerged (a n b m result length : ℕ) : Type 0 where
  pub below : result < 2 ^ length
  pub text : bits_of length result ≡ bits_of n a ++ bits_of m b

-- the product with a power of two, and the sum, are exact where both words fit into so many bits
merged : (most a n b m before power product behind result length : ℕ) → n + m ≤ most → a < 2 ^ n → b < 2 ^ m → before ≡ a → power ≡ 2 ^ m
    → (before * power < 2 ^ most → product ≡ before * power) → behind ≡ b → (product + behind < 2 ^ most → result ≡ product + behind) → length ≡ n + m
    → IsMerged a n b m result length
merged most a n b m before power product behind result length few low high first pow times second plus len =
    let fits = both_below n m a b low high in
    let whole : 2 ^ (n + m) ≤ 2 ^ most = pow_mono few in
    let p : product ≡ a * 2 ^ m = times (rw (first, pow) (omega (arith, fits, whole))) ∙ rw (first, pow) refl in
    let e : result ≡ a * 2 ^ m + b = plus (rw (p, second) (omega (arith, fits, whole))) ∙ rw (p, second) refl in
    record { below = rw (e, len) fits; text = rw (e, len) (bits_of-join n m a b high) }

-- words of one length, lane by lane
pub equal_merged : (n most count : ℕ) (bits before product behind result : List ℕ) → n + n ≤ most → ((k : ℕ) → k < 2 * count → number bits k < 2 ^ n)
    → ((k : ℕ) → k < count → number before k ≡ number bits (2 * k))
    → ((k : ℕ) → k < count → number before k * 2 ^ n < 2 ^ most → number product k ≡ number before k * 2 ^ n)
    → ((k : ℕ) → k < count → number behind k ≡ number bits (2 * k + 1))
    → ((k : ℕ) → k < count → number product k + number behind k < 2 ^ most → number result k ≡ number product k + number behind k)
    → (k : ℕ) → k < count → IsMerged (number bits (2 * k)) n (number bits (2 * k + 1)) n (number result k) (n + n)
equal_merged n most count bits before product behind result few below first times second plus k lt =
    merged most _ n _ n (number before k) (2 ^ n) (number product k) (number behind k) (number result k) (n + n) few (below (2 * k) (omega (arith, lt)))
    (below (2 * k + 1) (omega (arith, lt))) (first k lt) refl (times k lt) (second k lt) (plus k lt) refl

-- the same, lane by lane
pub lanes_merged : (half most count : ℕ) (bits lengths before power product behind result before_lengths behind_lengths result_lengths : List ℕ) → half + half ≤ most → half + half < 2 ^ most
    → AreWords half (2 * count) bits lengths
    → ((k : ℕ) → k < count → number before k ≡ number bits (2 * k))
    → ((k : ℕ) → k < count → number power k ≡ 2 ^ number lengths (2 * k + 1))
    → ((k : ℕ) → k < count → number before k * number power k < 2 ^ most → number product k ≡ number before k * number power k)
    → ((k : ℕ) → k < count → number behind k ≡ number bits (2 * k + 1))
    → ((k : ℕ) → k < count → number product k + number behind k < 2 ^ most → number result k ≡ number product k + number behind k)
    → ((k : ℕ) → k < count → number before_lengths k ≡ number lengths (2 * k))
    → ((k : ℕ) → k < count → number behind_lengths k ≡ number lengths (2 * k + 1))
    → ((k : ℕ) → k < count → number before_lengths k + number behind_lengths k < 2 ^ most → number result_lengths k ≡ number before_lengths k + number behind_lengths k)
    → AreWords (half + half) count result result_lengths × ArePairs count result result_lengths bits lengths
lanes_merged half most count bits lengths before power product behind result before_lengths behind_lengths result_lengths few room words first pow times second plus p q sum = (
  record { length = λ i lt. rw (long i lt) (omega (arith, words.length (2 * i) (omega arith), words.length (2 * i + 1) (omega arith))); below = λ i lt. (one i lt).below },
  λ i lt. (one i lt).text,
)
  where
    long : (i : ℕ) → i < count → number result_lengths i ≡ number lengths (2 * i) + number lengths (2 * i + 1)
    long i lt =
        let e = ap₂ (λ x y. x + y) (p i lt) (q i lt) in
        sum i lt (rw e (omega (arith, few, room, words.length (2 * i) (omega arith), words.length (2 * i + 1) (omega arith)))) ∙ e

    one : (i : ℕ) → i < count
        → IsMerged (number bits (2 * i)) (number lengths (2 * i)) (number bits (2 * i + 1)) (number lengths (2 * i + 1)) (number result i) (number result_lengths i)
    one i lt =
        merged most _ _ _ _ (number before i) (number power i) (number product i) (number behind i) _ _
        (omega (arith, few, words.length (2 * i) (omega arith), words.length (2 * i + 1) (omega arith)))
        (words.below (2 * i) (omega arith)) (words.below (2 * i + 1) (omega arith)) (first i lt) (pow i lt) (times i lt) (second i lt) (plus i lt) (long i lt)

four_texts : (a b c d rest : List Bool) → ((a ++ b) ++ (c ++ d)) ++ rest ≡ a ++ (b ++ (c ++ (d ++ rest)))
four_texts a b c d rest = append_assoc (a ++ b) (c ++ d) rest ∙ append_assoc a b ((c ++ d) ++ rest) ∙ ap (λ (x : List Bool). a ++ (b ++ x)) (append_assoc c d rest)

-- two of four texts each are eight
pub eight_texts : (text pair quad : ℕ → List Bool) → ((i : ℕ) → i < 4 → pair i ≡ text (2 * i) ++ text (2 * i + 1)) → ((i : ℕ) → i < 2 → quad i ≡ pair (2 * i) ++ pair (2 * i + 1))
    → quad 0 ++ quad 1 ≡ texts text 0 8
eight_texts text pair quad pairs quads =
    let first = quads 0 (omega arith) ∙ ap₂ (λ (x y : List Bool). x ++ y) (pairs 0 (omega arith)) (pairs 1 (omega arith)) in
    let second = quads 1 (omega arith) ∙ ap₂ (λ (x y : List Bool). x ++ y) (pairs 2 (omega arith)) (pairs 3 (omega arith)) in
    ap₂ (λ (x y : List Bool). x ++ y) first (second ∙ sym (append-nil ((text 4 ++ text 5) ++ (text 6 ++ text 7))))
    ∙ four_texts (text 0) (text 1) (text 2) (text 3) (((text 4 ++ text 5) ++ (text 6 ++ text 7)) ++ [])
    ∙ ap (λ (x : List Bool). text 0 ++ (text 1 ++ (text 2 ++ (text 3 ++ x)))) (four_texts (text 4) (text 5) (text 6) (text 7) [])

-- words of at most so many bits each are no longer together
texts_length : (most : ℕ) (text : ℕ → List Bool) → (n i : ℕ) → ((j : ℕ) → j < i + n → length (text j) ≤ most) → length (texts text i n) ≤ n * most
texts_length most text zero i few = omega arith
texts_length most text (suc n) i few =
    let rest = texts_length most text n (suc i) (λ j lt. few j (omega (arith, lt))) in
    let next : suc n * most ≡ most + n * most = grind arith in
    omega (arith, length-append (text i) (texts text (suc i) n), few i (omega arith), rest, next)

pub short_length : (w : EightWords) → AreShort w → length (texts (word_text w) 0 8) ≤ 112
short_length w short = texts_length 14 (word_text w) 8 0 (λ j lt. rw (length-bits_of (number w.lengths j) (number w.bits j)) (short.length j lt))
