use Rattle.std.proofs.Common.{◌*◌, ◌%◌, ◌^◌, ◌∷◌, ◌++◌, [], ℕ, List, map, take, get_or, sym, ap, ◌∙◌, arith}
use Rattle.std.proofs.lemmas.List.{take_all}
use Rattle.speed.proofs.Powers.{power_is, rest_fits, mapped_front}
use Rattle.speed.proofs.block_coder.low_bits.Goals as goal

pub overflow_cast-rest : goal.overflow_cast-rest
overflow_cast-rest c =
    let lt = rest_fits (get_or c.args.numbers.now c.loop-number.number-index 0) c.bits-bits.result c.bits-bits.ensures.range.1 in
    omega (arith, lt)

pub loop-number-preserved : goal.loop-number-preserved
loop-number-preserved c =
    let number = get_or c.args.numbers.now c.loop-number.number-index 0 in
    c.in_ok-push.ensures.items
    ∙ ap (λ (n : ℕ). c.loop-number.low.items ++ n % (1 * 2 ^ c.bits-bits.result % 4294967296) ∷ []) c.from.ensures
    ∙ ap (λ (ns : List ℕ). ns ++ number % (1 * 2 ^ c.bits-bits.result % 4294967296) ∷ []) c.loop-number.invariant
    ∙ ap (λ (power : ℕ). map (λ n. n % 2 ^ c.bits-bits.result) (take c.loop-number.number-index c.args.numbers.now)
    ++ number % power ∷ []) (power_is c.bits-bits.result c.bits-bits.ensures.range.1)
    ∙ sym (mapped_front (λ n. n % 2 ^ c.bits-bits.result) c.args.numbers.now c.loop-number.number-index c.loop-number-test.true)

pub returns : goal.returns
returns c =
    c.loop-number.invariant
    ∙ ap (map (λ n. n % 2 ^ c.bits-bits.result)) (take_all c.loop-number.number-index c.args.numbers.now c.loop-number-test.false)
    ∙ ap (λ (bits : ℕ). map (λ n. n % 2 ^ bits) c.args.numbers.now) c.bits-bits.ensures.value
