-- A word that has the next bits, and what reading finds there.
use Rattle.std.proofs.Common.{◌≡◌, ℕ, ◌+◌, ◌-◌, ◌*◌, ◌/◌, ◌%◌, ◌^◌, ◌<◌, ◌≤◌, Bool, true, false, List, [], ◌∷◌, ◌++◌, length, drop, replicate, Ok, sym, ap, ◌∙◌}
use Rattle.std.proofs.Common.{append_assoc, arith}
use Rattle.std.specs.Int.Count.{count_leading_zeros}
use Rattle.std.proofs.lemmas.List.{drop-drop, length-append}
use Rattle.header_bits.specs.Bits.{bits_of, bits_of_bytes}
use Rattle.header_bits.specs.Reading.{number_at, zeros_at}
use Rattle.header_bits.specs.Windows.{IsAhead, IsWindow}
use Rattle.header_bits.proofs.Numbers.{length-bits_of, bits_of-add, bits_of_zero, bits_of_one}
use Rattle.header_bits.proofs.Reading.{number_low, zeros_ended, zeros_full}
use Rattle.header_bits.proofs.Windows.{front_dropped, top_is_one, top_is_zero, two_shifts}
use Rattle.header_bits.proofs.Words.{highest_shifted}

-- a window at a position
pub window_ahead : (bytes : List ℕ) (at word : ℕ) (left : List Bool) → drop at (bits_of_bytes bytes) ≡ left → at + 57 ≤ 8 * length bytes
    → IsWindow bytes at word → IsAhead 57 left word
window_ahead bytes at word left is enough h = λ n le.
    let later : drop (at + n) (bits_of_bytes bytes) ≡ drop n left = sym (drop-drop n at (bits_of_bytes bytes)) ∙ ap (drop n) is in
    sym is ∙ h n (omega arith) (omega arith) ∙ ap (λ (x : List Bool). bits_of n (word / 2 ^ (64 - n)) ++ x) later

-- so many bits are left
pub ahead_length : (most : ℕ) (bits : List Bool) (word : ℕ) → IsAhead most bits word → most ≤ length bits
ahead_length most bits word h =
    let all : length bits ≡ length (bits_of most (word / 2 ^ (64 - most))) + length (drop most bits) =
    ap length (h most (omega arith)) ∙ length-append (bits_of most (word / 2 ^ (64 - most))) (drop most bits) in
    omega (arith, all, length-bits_of most (word / 2 ^ (64 - most)))

-- the zeros that lead the word, and the one after them
pub zeros_ahead : (count limit most : ℕ) (bits : List Bool) (word run : ℕ) → word < 2 ^ 64 → most ≤ 64 → IsAhead most bits word → limit ≤ most
    → run ≡ count_leading_zeros 64 word → run < limit
    → zeros_at count limit bits ≡ Ok (run, drop (run + 1) bits)
zeros_ahead count limit most bits word run below few h le is lt =
    let one : word / 2 ^ (64 - (run + 1)) ≡ 1 = top_is_one word run below (omega arith) is in
    let front : bits ≡ replicate run false ++ true ∷ drop (run + 1) bits =
    h (run + 1) (omega arith) ∙ ap (λ (x : List Bool). x ++ drop (run + 1) bits) (ap (bits_of (run + 1)) one ∙ bits_of_one run)
    ∙ append_assoc (replicate run false) (true ∷ []) (drop (run + 1) bits) in
    ap (zeros_at count limit) front ∙ zeros_ended count limit run (drop (run + 1) bits) lt

-- as many zeros as the limit
pub limit_ahead : (count limit most : ℕ) (bits : List Bool) (word : ℕ) → word < 2 ^ 64 → IsAhead most bits word → limit ≤ most
    → limit ≤ count_leading_zeros 64 word → zeros_at count limit bits ≡ Ok (limit, drop limit bits)
limit_ahead count limit most bits word below h le many =
    let front : bits ≡ replicate limit false ++ drop limit bits =
    h limit le ∙ ap (λ (x : List Bool). x ++ drop limit bits) (ap (bits_of limit) (top_is_zero word limit below many) ∙ bits_of_zero limit) in
    ap (zeros_at count limit) front ∙ zeros_full count limit (drop limit bits)

-- a number after the highest bits
pub number_ahead : (count highest n most : ℕ) (bits : List Bool) (word : ℕ) → IsAhead most bits word → highest + n ≤ most
    → number_at count n (drop highest bits) ≡ Ok (word / 2 ^ (64 - (highest + n)) % 2 ^ n, drop (highest + n) bits)
number_ahead count highest n most bits word h le =
    let there : ℕ = word / 2 ^ (64 - (highest + n)) in
    let rest : List Bool = drop (highest + n) bits in
    let split : bits ≡ bits_of highest (there / 2 ^ n) ++ (bits_of n there ++ rest) = h (highest + n) le
    ∙ ap (λ (x : List Bool). x ++ rest) (bits_of-add highest n there) ∙ append_assoc (bits_of highest (there / 2 ^ n)) (bits_of n there) rest in
    ap (number_at count n) (front_dropped highest (there / 2 ^ n) bits (bits_of n there ++ rest) split) ∙ number_low count n there rest

-- the bits of a word between two positions
pub shifted_after : (word highest n : ℕ) → n < 64 → highest + n ≤ 64
    → (word * 2 ^ highest % 2 ^ 64) / 2 / 2 ^ (63 - n) ≡ word / 2 ^ (64 - (highest + n)) % 2 ^ n
shifted_after word highest n few le = two_shifts (word * 2 ^ highest % 2 ^ 64) n few ∙ highest_shifted word highest n le
