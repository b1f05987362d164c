use Rattle.std.proofs.Common.{◌≡◌, ◌+◌, ◌-◌, ◌%◌, ℕ, refl, ap, ◌∙◌, arith}
use Rattle.std.specs.Int.{rotate_left, w64}
use Rattle.std.specs.Int.Count.{count_leading_zeros}
use Rattle.sample_adaptive.proofs.ShortWords.{ahead_turned}
use Rattle.sample_adaptive.proofs.WordParts.{place_of, plain_next}
use Rattle.sample_adaptive.proofs.word_parts.first_part.Goals as goal

pub overflow_sub-place : goal.overflow_sub-place
overflow_sub-place c = place_of _ c.with_one_below-ahead.ensures.some c.with_one_below-ahead.type_inv

pub returns-clause-word : goal.returns-clause-word
returns-clause-word c = λ left most within few seen.
    let ahead = c.with_one_below-ahead in
    let zeros : ℕ = count_leading_zeros 64 ahead.result in
    let place = place_of ahead.result ahead.ensures.some ahead.type_inv in
    let long : c.args.end - (63 - zeros) ≡ zeros + 1 + (c.args.end - 64) = omega (arith, place, c.requires) in
    let count : 63 - (63 - zeros) ≡ zeros = omega (arith, place) in
    rw (count, long) (plain_next left most ahead.result zeros _ (c.args.end - 64) ahead.type_inv few (ahead.ensures.ahead left most (omega (arith, few)) seen) refl
    (omega (arith, long, within)) (ap (λ n. n % 4294967296) (c.rotate_left-rest.ensures ∙ ap (λ n. rotate_left w64 ahead.result n) long)) (omega (arith, c.requires)))

pub returns-clause-rest : goal.returns-clause-rest
returns-clause-rest c = λ left most within few seen.
    let ahead = c.with_one_below-ahead in
    let place = place_of ahead.result ahead.ensures.some ahead.type_inv in
    let length = c.args.end - (63 - count_leading_zeros 64 ahead.result) in
    let all : most - length + length ≡ most = omega (arith, within) in
    rw c.rotate_left-rest.ensures (ahead_turned (most - length) length left ahead.result (omega (arith, place, c.requires)) (omega (arith, within, few)) (omega (arith, within, few)) ahead.type_inv
    (rw all (ahead.ensures.ahead left most (omega (arith, few)) seen)))
