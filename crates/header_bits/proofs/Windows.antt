-- Words of bits at a position among the bits of bytes, and what a reader finds there.
use Rattle.std.proofs.Common.{◌≡◌, ℕ, suc, ◌+◌, ◌-◌, ◌*◌, ◌/◌, ◌%◌, ◌^◌, ◌<◌, ◌≤◌, Bool, true, false, List, [], ◌∷◌, ◌++◌, length, take, drop, replicate, sym}
use Rattle.std.proofs.Common.{ap, subst, ◌∙◌, append_assoc, arith, lit<}
use Rattle.std.specs.Int.Count.{count_leading_zeros}
use Rattle.std.proofs.lemmas.Nat.{leading_length, shr-shr, shr_below}
use Rattle.std.proofs.lemmas.List.{drop-drop, drop_at, length-drop, take_all, take_at, take-take, take-append-drop, replicate-append-replicate}
use Rattle.std.proofs.lemmas.List.{length-replicate}
use Rattle.std.proofs.Math.Nat.{div-eq_of_lt, div-eq_of_lt-le, pow-succ', pow-le-pow_right}
use Rattle.header_bits.specs.Bits.{bits_of, bits_of_bytes, Unread}
use Rattle.header_bits.specs.Windows.{IsFrontWord, IsWindow}
use Rattle.header_bits.proofs.Numbers.{length-bits_of, bits_of-add, bits_of-mod, bits_of-join, bits_of_zero, bits_of_one}
use Rattle.header_bits.proofs.Bytes.{length-bits_of_bytes, bits_of_bytes-drop, bits_of_bytes-take}
use Rattle.header_bits.proofs.Words.{highest_bits, highest_shifted}

-- all bytes from one on
pub whole_tail : (bytes : List ℕ) (i : ℕ) → take (length bytes - i) (drop i bytes) ≡ drop i bytes
whole_tail bytes i = take_all (length bytes - i) (drop i bytes) (omega (arith, length-drop i bytes))

-- bits at the front, and then those after them
pub front_dropped : (n v : ℕ) (bits rest : List Bool) → bits ≡ bits_of n v ++ rest → drop n bits ≡ rest
front_dropped n v bits rest e = ap (drop n) e ∙ drop_at (bits_of n v) rest n (length-bits_of n v)

-- a word stands at the front where it has the same highest bits
front_word : (bytes word8 : List ℕ) (word : ℕ) → bits_of_bytes word8 ≡ bits_of 64 word
    → ((n : ℕ) → n ≤ 64 → n ≤ 8 * length bytes → take n (bits_of_bytes bytes) ≡ take n (bits_of_bytes word8)) → IsFrontWord bytes word
front_word bytes word8 word e same n le enough =
    let high : ℕ = word / 2 ^ (64 - n) in
    let front : take n (bits_of_bytes bytes) ≡ bits_of n high =
    same n le enough ∙ ap (take n) (e ∙ highest_bits n word le) ∙ take_at (bits_of n high) (bits_of (64 - n) word) n (length-bits_of n high) in
    sym (take-append-drop n (bits_of_bytes bytes)) ∙ ap (λ (x : List Bool). x ++ drop n (bits_of_bytes bytes)) front

pub front_of_more : (bytes word8 : List ℕ) (word : ℕ) → bits_of_bytes word8 ≡ bits_of 64 word → word8 ≡ take 8 bytes → IsFrontWord bytes word
front_of_more bytes word8 word e is = front_word bytes word8 word e
    (λ n le enough. sym (ap (take n) (ap bits_of_bytes is ∙ bits_of_bytes-take 8 bytes) ∙ take-take n 64 (bits_of_bytes bytes) le))

pub front_of_few : (bytes word8 : List ℕ) (word : ℕ) → bits_of_bytes word8 ≡ bits_of 64 word → take (length bytes) word8 ≡ bytes → IsFrontWord bytes word
front_of_few bytes word8 word e is =
    front_word bytes word8 word e (λ n le enough. ap (take n) (ap bits_of_bytes (sym is) ∙ bits_of_bytes-take (length bytes) word8)
    ∙ take-take n (8 * length bytes) (bits_of_bytes word8) enough)

-- a word of whole bytes, shifted to a position inside its first
pub window_shifted : (bytes : List ℕ) (at word : ℕ) → at ≤ 8 * length bytes → IsFrontWord (drop (at / 8) bytes) word
    → IsWindow bytes at (word * 2 ^ (at % 8) % 2 ^ 64)
window_shifted bytes at word within h n fits enough =
    let i : ℕ = at / 8 in
    let r : ℕ = at % 8 in
    let here : 8 * i + r ≡ at = omega arith in
    let all : List Bool = bits_of_bytes bytes in
    let from : List Bool = bits_of_bytes (drop i bytes) in
    let there : ℕ = word / 2 ^ (64 - (r + n)) in
    let len : length (drop i bytes) ≡ length bytes - i = length-drop i bytes in
    let first : from ≡ bits_of (r + n) there ++ drop (r + n) from = h (r + n) (omega arith) (omega (arith, len)) in
    let split : from ≡ bits_of r (there / 2 ^ n) ++ (bits_of n there ++ drop (r + n) from) =
    first ∙ ap (λ (x : List Bool). x ++ drop (r + n) from) (bits_of-add r n there)
    ∙ append_assoc (bits_of r (there / 2 ^ n)) (bits_of n there) (drop (r + n) from) in
    let inside : drop r from ≡ bits_of n there ++ drop (r + n) from = front_dropped r (there / 2 ^ n) from (bits_of n there ++ drop (r + n) from) split in
    let position : drop at all ≡ drop r from = ap (λ k. drop k all) (sym here) ∙ sym (drop-drop r (8 * i) all) ∙ ap (drop r) (bits_of_bytes-drop i bytes) in
    let after : 8 * i + (r + n) ≡ at + n = omega arith in
    let later : drop (r + n) from ≡ drop (at + n) all =
    ap (drop (r + n)) (sym (bits_of_bytes-drop i bytes)) ∙ drop-drop (r + n) (8 * i) all ∙ ap (λ k. drop k all) after in
    let same : bits_of n there ≡ bits_of n ((word * 2 ^ r % 2 ^ 64) / 2 ^ (64 - n)) =
    sym (ap (bits_of n) (highest_shifted word r n fits) ∙ bits_of-mod n n there (omega arith)) in
    position ∙ inside ∙ ap (λ (x : List Bool). x ++ drop (r + n) from) same
    ∙ ap (λ (x : List Bool). bits_of n ((word * 2 ^ r % 2 ^ 64) / 2 ^ (64 - n)) ++ x) later

below_more : (m j word : ℕ) → word < 2 ^ m → m ≤ j → word < 2 ^ j
below_more m j word lt le =
    let p : 2 ^ m ≤ 2 ^ j = pow-le-pow_right (lit< tt) le in
    omega (arith, p)

-- the first bit that isn't zero
pub top_is_one : (word run : ℕ) → word < 2 ^ 64 → run + 1 ≤ 64 → run ≡ count_leading_zeros 64 word → word / 2 ^ (64 - (run + 1)) ≡ 1
top_is_one word run below le is =
    let p = leading_length 64 word below in
    let j : ℕ = 64 - (run + 1) in
    let size : p.0 ≡ suc j = omega (arith, p.1) in
    let double : 2 ^ suc j ≡ 2 * 2 ^ j = pow-succ' 2 j in
    let above : word < 2 ^ suc j = subst (λ (k : ℕ). word < 2 ^ k) size p.2 in
    let least : 2 ^ suc j ≤ 2 * word + 1 = subst (λ (k : ℕ). 2 ^ k ≤ 2 * word + 1) size p.3 in
    div-eq_of_lt-le (2 ^ j) (omega (arith, double, least)) (omega (arith, double, above))

-- the first bits that are zeros
pub top_is_zero : (word some : ℕ) → word < 2 ^ 64 → some ≤ count_leading_zeros 64 word → word / 2 ^ (64 - some) ≡ 0
top_is_zero word some below le =
    let p = leading_length 64 word below in
    div-eq_of_lt (below_more p.0 (64 - some) word p.2 (omega (arith, p.1)))

-- zeros that lead the word are zeros that come next
pub zeros_next : (bytes : List ℕ) (at word some : ℕ) → word < 2 ^ 64 → IsWindow bytes at word → at % 8 + some ≤ 64 → at + some ≤ 8 * length bytes
    → some ≤ count_leading_zeros 64 word
    → drop at (bits_of_bytes bytes) ≡ replicate some false ++ drop (at + some) (bits_of_bytes bytes)
zeros_next bytes at word some below h fits enough le =
    h some fits enough
    ∙ ap (λ (x : List Bool). x ++ drop (at + some) (bits_of_bytes bytes)) (ap (bits_of some) (top_is_zero word some below le) ∙ bits_of_zero some)

-- and then a one
pub one_next : (bytes : List ℕ) (at word run : ℕ) → word < 2 ^ 64 → IsWindow bytes at word → at % 8 + (run + 1) ≤ 64 → at + (run + 1) ≤ 8 * length bytes
    → run ≡ count_leading_zeros 64 word
    → drop at (bits_of_bytes bytes) ≡ replicate run false ++ true ∷ drop (at + (run + 1)) (bits_of_bytes bytes)
one_next bytes at word run below h fits enough is =
    let size : 64 - (run + 1) ≡ 63 - run = omega arith in
    let one : word / 2 ^ (64 - (run + 1)) ≡ 1 = top_is_one word run below (omega arith) is in
    h (run + 1) fits enough ∙ ap (λ (x : List Bool). x ++ drop (at + (run + 1)) (bits_of_bytes bytes)) (ap (bits_of (run + 1)) one ∙ bits_of_one run)
    ∙ append_assoc (replicate run false) (true ∷ []) (drop (at + (run + 1)) (bits_of_bytes bytes))

pub two_shifts : (word n : ℕ) → n < 64 → word / 2 / 2 ^ (63 - n) ≡ word / 2 ^ (64 - n)
two_shifts word n few =
    let size : 1 + (63 - n) ≡ 64 - n = omega arith in
    shr-shr word 1 (63 - n) ∙ ap (λ k. word / 2 ^ k) size

-- the one that ends the zeros
pub one_after : (bytes : List ℕ) (at zeros word run : ℕ) → word < 2 ^ 64 → IsWindow bytes (at + zeros) word → (at + zeros) % 8 + (run + 1) ≤ 64
    → at + zeros + (run + 1) ≤ 8 * length bytes → run ≡ count_leading_zeros 64 word
    → drop (at + (zeros + run)) (bits_of_bytes bytes) ≡ true ∷ drop (at + (zeros + run) + 1) (bits_of_bytes bytes)
one_after bytes at zeros word run below h fits enough is =
    let all : List Bool = bits_of_bytes bytes in
    let position : at + zeros + run ≡ at + (zeros + run) = omega arith in
    let after : at + zeros + (run + 1) ≡ at + (zeros + run) + 1 = omega arith in
    ap (λ k. drop k all) (sym position) ∙ sym (drop-drop run (at + zeros) all) ∙ ap (drop run) (one_next bytes (at + zeros) word run below h fits enough is)
    ∙ drop_at (replicate run false) (true ∷ drop (at + zeros + (run + 1)) all) run (length-replicate run false) ∙ ap (λ k. true ∷ drop k all) after

-- the first n bits of a window
pub piece_of : (bytes : List ℕ) (at n word : ℕ) → n ≤ 56 → at + n ≤ 8 * length bytes → IsWindow bytes at word
    → drop at (bits_of_bytes bytes) ≡ bits_of n (word / 2 / 2 ^ (63 - n)) ++ drop (at + n) (bits_of_bytes bytes)
piece_of bytes at n word few enough h =
    h n (omega arith) enough ∙ ap (λ k. bits_of n k ++ drop (at + n) (bits_of_bytes bytes)) (sym (two_shifts word n (omega arith)))

pub piece_below : (word n : ℕ) → n ≤ 56 → word < 2 ^ 64 → word / 2 / 2 ^ (63 - n) < 2 ^ n
piece_below word n few lt =
    let size : n + (64 - n) ≡ 64 = omega arith in
    rw (two_shifts word n (omega arith)) (shr_below word n (64 - n) (subst (λ (k : ℕ). word < 2 ^ k) (sym size) lt))

-- one piece after another
pub pieces_joined : (bytes : List ℕ) (at n high low : ℕ) → 32 ≤ n → low < 2 ^ 32
    → drop at (bits_of_bytes bytes) ≡ bits_of (n - 32) high ++ drop (at + (n - 32)) (bits_of_bytes bytes)
    → drop (at + (n - 32)) (bits_of_bytes bytes) ≡ bits_of 32 low ++ drop (at + (n - 32) + 32) (bits_of_bytes bytes)
    → drop at (bits_of_bytes bytes) ≡ bits_of n (high * 2 ^ 32 + low) ++ drop (at + n) (bits_of_bytes bytes)
pieces_joined bytes at n high low le lt first second =
    let all : List Bool = bits_of_bytes bytes in
    let size : (n - 32) + 32 ≡ n = omega arith in
    let position : at + (n - 32) + 32 ≡ at + n = omega arith in
    let joined : bits_of n (high * 2 ^ 32 + low) ≡ bits_of (n - 32) high ++ bits_of 32 low =
    ap (λ k. bits_of k (high * 2 ^ 32 + low)) (sym size) ∙ bits_of-join (n - 32) 32 high low lt in
    first ∙ ap (λ (x : List Bool). bits_of (n - 32) high ++ x) (second ∙ ap (λ k. bits_of 32 low ++ drop k all) position)
    ∙ sym (append_assoc (bits_of (n - 32) high) (bits_of 32 low) (drop (at + n) all)) ∙ ap (λ (x : List Bool). x ++ drop (at + n) all) (sym joined)

-- zeros that were counted, and more after them
pub zeros_joined : (at zeros some : ℕ) (bits after : List Bool) → drop at bits ≡ replicate zeros false ++ drop (at + zeros) bits
    → drop (at + zeros) bits ≡ replicate some false ++ after → drop at bits ≡ replicate (zeros + some) false ++ after
zeros_joined at zeros some bits after first second =
    first ∙ ap (λ (x : List Bool). replicate zeros false ++ x) second ∙ sym (append_assoc (replicate zeros false) (replicate some false) after)
    ∙ ap (λ (x : List Bool). x ++ after) (replicate-append-replicate zeros some false)

-- the bits that a reader has left are those after its position
pub left_length : (at : ℕ) (bytes : List ℕ) (unread : Unread) → at ≤ 8 * length bytes
    → record { count = 8 * length bytes; left = drop at (bits_of_bytes bytes) } ≡ unread → length unread.left + at ≡ 8 * length bytes
left_length at bytes unread le e =
    let n = ap (λ (u : Unread). length u.left) (sym e) ∙ length-drop at (bits_of_bytes bytes) in omega (arith, n, length-bits_of_bytes bytes)
