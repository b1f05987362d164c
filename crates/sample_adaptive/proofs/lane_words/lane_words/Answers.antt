use Rattle.std.proofs.Common.{ℕ, suc, ◌≡◌, ◌+◌, ◌-◌, ◌*◌, ◌/◌, ◌%◌, ◌^◌, ◌≤◌, min, ap, ◌∙◌, arith}
use Rattle.std.proofs.Math.Nat.{min-le_right, pow-succ', mul-div-mul_left, div-le_self}
use Rattle.lanes.specs.Lanes.{number}
use Rattle.sample_adaptive.proofs.lane_words.lane_words.Goals as goal

-- half of a quotient of twice a number
half_of_twice : (m k : ℕ) → 2 * m / 2 ^ (k + 1) ≡ m / 2 ^ k
half_of_twice m k =
    let e : k + 1 ≡ suc k = omega arith in
    let twice : 2 ^ (k + 1) ≡ 2 * 2 ^ k = ap (λ j. 2 ^ j) e ∙ pow-succ' 2 k in
    ap (λ n. 2 * m / n) twice ∙ mul-div-mul_left {m = 2} m (2 ^ k) (omega arith)

pub returns-clause-lower : goal.returns-clause-lower
returns-clause-lower c j within set =
    let k : ℕ = c.args.codes.k in
    let kept = c.requires.kept.3 in
    let few = c.requires.kept.2 in
    let m : ℕ = min (number c.args.residuals j) 32767 in
    let held : number c.capped-held.result j ≡ m = c.capped-held.ensures j within in
    let small : m ≤ 32767 = min-le_right (number c.args.residuals j) 32767 in
    let doubled = c.doubled_where-doubled.ensures.doubled j within set (omega (arith, held, small)) in
    let quotient : number c.shifted-quotients.result j ≡ m / 2 ^ k =
    c.shifted-quotients.ensures j within ∙ ap (λ n. n / 2 ^ (k + 1)) (doubled ∙ ap (λ n. 2 * n) held) ∙ half_of_twice m k in
    let least : m / 2 ^ k ≤ m = div-le_self m (2 ^ k) in
    let one : number c.less_one_where.result j ≡ k + 2 - 1 =
    c.less_one_where.ensures.lessened j within set (omega (arith, kept.shortest j within)) ∙ ap (λ n. n - 1) (kept.shortest j within) in
    let next : 2 ^ (k + 1) ≡ 2 * 2 ^ k = ap (λ n. 2 ^ n) (let e : k + 1 ≡ suc k = omega arith in e) ∙ pow-succ' 2 k in
    let power : number c.lessened_where-powers.result j ≡ 2 ^ k =
    c.lessened_where-powers.ensures.lessened j within set (omega (arith, kept.power j within, kept.next_power j within, next))
    ∙ omega (arith, kept.power j within, kept.next_power j within, next) in
    record {
      long = c.short_sum.ensures j within (omega (arith, quotient, least, small, one, kept.k, few)) ∙ omega (arith, quotient, one);
      low = c.rest_and_power.ensures j k within (omega (arith, kept.k, few)) power ∙ ap (λ n. 2 ^ k + n % 2 ^ k) held;
    }

pub returns-clause-upper : goal.returns-clause-upper
returns-clause-upper c j within clear =
    let k : ℕ = c.args.codes.k in
    let kept = c.requires.kept.3 in
    let few = c.requires.kept.2 in
    let m : ℕ = min (number c.args.residuals j) 32767 in
    let held : number c.capped-held.result j ≡ m = c.capped-held.ensures j within in
    let small : m ≤ 32767 = min-le_right (number c.args.residuals j) 32767 in
    let quotient : number c.shifted-quotients.result j ≡ m / 2 ^ (k + 1) =
    c.shifted-quotients.ensures j within ∙ ap (λ n. n / 2 ^ (k + 1)) (c.doubled_where-doubled.ensures.kept j within clear ∙ held) in
    let least : m / 2 ^ (k + 1) ≤ m = div-le_self m (2 ^ (k + 1)) in
    let all : number c.less_one_where.result j ≡ k + 2 = c.less_one_where.ensures.kept j within clear ∙ kept.shortest j within in
    let power : number c.lessened_where-powers.result j ≡ 2 ^ (k + 1) = c.lessened_where-powers.ensures.kept j within clear ∙ kept.next_power j within in
    record {
      long = c.short_sum.ensures j within (omega (arith, quotient, least, small, all, kept.k, few)) ∙ omega (arith, quotient, all);
      low = c.rest_and_power.ensures j (k + 1) within (omega (arith, kept.k, few)) power ∙ ap (λ n. 2 ^ (k + 1) + n % 2 ^ (k + 1)) held;
    }
