use Rattle.std.proofs.Common.{◌≡◌, ◌+◌, ◌*◌, ◌/◌, ◌-◌, ◌<◌, ◌≤◌, ◌^◌, ℕ, arith, sym, ◌∙◌, ap}
use Rattle.std.proofs.lemmas.Nat.{pow-add, pow_pos, div_below}
use Rattle.std.proofs.Math.Nat.{div-div-eq-div-mul}
use Rattle.speed.specs.Numbers.{highest}
use Rattle.speed.proofs.synthetic.Generator.number.Goals as goal

highest_of_word : (state bits : ℕ) → bits ≤ 16 → state / 281474976710656 / 2 ^ (16 - bits) ≡ highest bits state
highest_of_word state bits h =
    let whole : 48 + (16 - bits) ≡ 64 - bits = omega arith in
    let product : 281474976710656 * 2 ^ (16 - bits) ≡ 2 ^ (64 - bits) = sym (pow-add 2 48 (16 - bits)) ∙ ap (λ (n : ℕ). 2 ^ n) whole in
    div-div-eq-div-mul state 281474976710656 (2 ^ (16 - bits)) ∙ ap (λ (n : ℕ). state / n) product

few_bits : (high bits : ℕ) → bits ≤ 16 → high < 65536 → high / 2 ^ (16 - bits) < 2 ^ bits
few_bits high bits h lt =
    let whole : bits + (16 - bits) ≡ 16 = omega arith in
    let product : 2 ^ bits * 2 ^ (16 - bits) ≡ 65536 = sym (pow-add 2 bits (16 - bits)) ∙ ap (λ (n : ℕ). 2 ^ n) whole in
    div_below high (2 ^ (16 - bits)) (2 ^ bits) (pow_pos (16 - bits)) (omega (arith, product))

pub returns-clause-number : goal.returns-clause-number
returns-clause-number c = highest_of_word _ c.args.bits c.requires.1

pub returns-clause-bound : goal.returns-clause-bound
returns-clause-bound c = few_bits _ c.args.bits c.requires.1 (omega arith)
