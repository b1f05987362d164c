use Rattle.std.proofs.Common.{◌≡◌, ◌+◌, ◌-◌, ◌/◌, ◌^◌, ◌≤◌, ◌++◌, ℕ, arith, ap, sym, ◌∙◌, append_assoc}
use Rattle.header_bits.specs.Bits.{bits_of}
use Rattle.header_bits.proofs.Numbers.{bits_of-add}
use Rattle.block_adaptive.proofs.gathering.with_sequence.Goals as goal

-- zeros and a one are the bits of 1
parts : (n : ℕ) → 1 ≤ n → bits_of (n - 1) 0 ++ bits_of 1 1 ≡ bits_of n 1
parts n some =
    let whole : n - 1 + 1 ≡ n = omega (arith, some) in
    let none : 1 / 2 ^ 1 ≡ 0 = omega arith in
    ap (λ (k : ℕ). bits_of (n - 1) k ++ bits_of 1 1) (sym none) ∙ sym (bits_of-add (n - 1) 1 1) ∙ ap (λ (k : ℕ). bits_of k 1) whole

pub returns-clause-bits : goal.returns-clause-bits
returns-clause-bits c =
    let all : c.args.held + (c.args.n - 1) + 1 ≡ c.args.held + c.args.n = omega (arith, c.requires.some) in
    let bits : bits_of (c.args.held + c.args.n) c.joined.result ≡ bits_of (c.args.held + (c.args.n - 1)) c.joined-zeros.result ++ bits_of 1 1 =
    rw all at c.joined.ensures.bits in
    rw (← parts c.args.n c.requires.some) (bits ∙ rw c.joined-zeros.ensures.bits (append_assoc (bits_of c.args.held c.args.word) (bits_of (c.args.n - 1) 0) (bits_of 1 1)))
