-- The first one of a word.
use Rattle.std.proofs.Common.{◌≡◌, ◌≢◌, ℕ, suc, ◌+◌, ◌-◌, ◌*◌, ◌^◌, ◌<◌, ◌≤◌, ◌++◌, sym, ap, subst, ◌∙◌, inl, inr, arith}
use Rattle.std.specs.Int.Count.{count_leading_zeros}
use Rattle.std.proofs.lemmas.Bool.{cases_lt}
use Rattle.std.specs.Int.Bits.{bit_xor, xor_zero_r}
use Rattle.std.proofs.lemmas.Nat.{leading_length, pow_pos, xor_block}
use Rattle.std.proofs.Math.Nat.{pow-succ'}
use Rattle.cube_core.proofs.Bounds.{power_grows}
use Rattle.header_bits.specs.Bits.{bits_of}
use Rattle.header_bits.proofs.Numbers.{bits_of-join}

-- a number, and the number after its highest bits
pub parts : (n k high word : ℕ) → high * 2 ^ k ≤ word → word < high * 2 ^ k + 2 ^ k → bits_of (n + k) word ≡ bits_of n high ++ bits_of k (word - high * 2 ^ k)
parts n k high word least most =
    let low : ℕ = word - high * 2 ^ k in
    let is : high * 2 ^ k + low ≡ word = omega arith in
    ap (bits_of (n + k)) (sym is) ∙ bits_of-join n k high low (omega arith)

pub record IsTop (word known j : ℕ) : Type 0 where
  pub inside : j < known
  pub least : 2 ^ j ≤ word
  pub most : word < 2 ^ j + 2 ^ j

pub top_is : (word known : ℕ) → word < 2 ^ known → known ≤ 57 → word ≢ 0 → IsTop word known (63 - count_leading_zeros 64 word)
top_is word known below few some =
    let wide = power_grows known 64 (omega arith) in
    let p = leading_length 64 word (omega arith) in
    let j : ℕ = 63 - count_leading_zeros 64 word in
    let size : p.0 ≡ suc j = elim (cases_lt 0 p.0) [
      | inl lt ↦ omega (arith, p.1)
      | inr le ↦ (let none : p.0 ≡ 0 = omega arith in absurd (some (let under : word < 2 ^ 0 = subst (λ (m : ℕ). word < 2 ^ m) none p.2 in omega arith)))
    ] in
    let double = pow-succ' 2 j in
    let above : word < 2 ^ suc j = subst (λ (m : ℕ). word < 2 ^ m) size p.2 in
    let least : 2 ^ suc j ≤ 2 * word + 1 = subst (λ (m : ℕ). 2 ^ m ≤ 2 * word + 1) size p.3 in
    record {
      inside = elim (cases_lt j known) [ inl lt ↦ lt | inr ge ↦ (let over = power_grows known j ge in absurd (omega arith)) ];
      least = omega arith;
      most = omega arith;
    }

-- without its first one
pub top_cleared : (word j : ℕ) → 2 ^ j ≤ word → word < 2 ^ j + 2 ^ j → bit_xor word (2 ^ j) ≡ word - 2 ^ j
top_cleared word j least most =
    let r : ℕ = word - 2 ^ j in
    let is : 1 * 2 ^ j + r ≡ word = omega arith in
    let one : 1 * 2 ^ j + 0 ≡ 2 ^ j = omega arith in
    let none : bit_xor 1 1 * 2 ^ j + r ≡ r = omega arith in
    ap (λ (n : ℕ). bit_xor n (2 ^ j)) (sym is) ∙ ap (bit_xor (1 * 2 ^ j + r)) (sym one) ∙ xor_block j 1 1 r 0 (omega arith) (pow_pos j)
    ∙ ap (λ (n : ℕ). bit_xor 1 1 * 2 ^ j + n) (xor_zero_r r) ∙ none
