use Rattle.std.proofs.Common.{◌≡◌, ◌+◌, ◌-◌, ◌*◌, ◌%◌, ◌^◌, ◌≤◌, ℕ, sym, ap, ◌∙◌, arith}
use Rattle.std.proofs.lemmas.Nat.{mul-le, pow-add}
use Rattle.sample_adaptive.proofs.ShortWords.{power_whole_32}
use Rattle.sample_adaptive.proofs.short_word.ShortWords.of.Goals as goal

pub invariant_of-result-clause-within_length : goal.invariant_of-result-clause-within_length
invariant_of-result-clause-within_length c = omega (arith, c.min-2.ensures, c.min.ensures, c.saturating_sub-short.ensures)

most_lawful : (zeros k bits : ℕ) → k ≤ bits → zeros ≤ 2 ^ (bits - k) → zeros * 2 ^ k ≤ 2 ^ bits
most_lawful zeros k bits le most =
    let product = mul-le zeros (2 ^ k) (2 ^ (bits - k)) (2 ^ k) most (omega arith) in
    let size : bits - k + k ≡ bits = omega arith in
    let power : 2 ^ bits ≡ 2 ^ (bits - k) * 2 ^ k = ap (λ j. 2 ^ j) (sym size) ∙ pow-add 2 (bits - k) k in
    omega (arith, product, power)

pub invariant_of-result-clause-within_bits : goal.invariant_of-result-clause-within_bits
invariant_of-result-clause-within_bits c =
    let code = c.args.code in
    let lawful : 1 * 2 ^ (code.bits - code.k) % 4294967296 ≡ 2 ^ (code.bits - code.k) = power_whole_32 (code.bits - code.k) (omega (arith, c.requires.bits)) in
    most_lawful c.min-2.result code.k code.bits c.requires.k (omega (arith, c.min-2.ensures, lawful))
