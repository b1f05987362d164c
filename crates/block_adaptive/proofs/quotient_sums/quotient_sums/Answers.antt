use Rattle.std.proofs.Common.{◌≡◌, ◌≤◌, ◌<◌, ◌+◌, ◌/◌, ◌^◌, ℕ, length, get_or, ap, ◌∙◌, arith}
use Rattle.lanes.specs.Lanes.{number}
use Rattle.block_adaptive.proofs.SumLanes.{smaller, sums_next}
use Rattle.block_adaptive.proofs.quotient_sums.quotient_sums.Goals as goal

pub loop-at-preserved : goal.loop-at-preserved
loop-at-preserved c =
    let k = c.args.k in
    let at = c.loop-at.at in
    let block = c.args.block.now in
    let inside : at + 8 ≤ length block = omega (arith, c.loop-at.invariant.eights, c.requires.eights, c.loop-at-test.true) in
    let few : at ≤ 56 = omega (arith, inside, c.requires.few) in
    let same : (m : ℕ) → m < 8 → number c.shifted-quotients.result m ≡ get_or block (at + m) 0 / 2 ^ k =
    λ m lt. c.shifted-quotients.ensures m lt ∙ ap (λ n. n / 2 ^ k) (c.numbers_at-values.ensures.same m lt) in
    let next : (m : ℕ) → m < 8 → number c.shifted.result m ≡ get_or block (at + m) 0 / 2 ^ (k + 1) =
    λ m lt. c.shifted.ensures m lt ∙ ap (λ n. n / 2 ^ (k + 1)) (c.numbers_at-values.ensures.same m lt) in
    let last : (m : ℕ) → m < 8 → number c.shifted-in-loop-at.result m ≡ get_or block (at + m) 0 / 2 ^ (k + 2) =
    λ m lt. c.shifted-in-loop-at.ensures m lt ∙ ap (λ n. n / 2 ^ (k + 2)) (c.numbers_at-values.ensures.same m lt) in
    let small = c.are_small.ensures c.if-not-are_small.false in
    let below : (m : ℕ) → m < 8 → get_or block (at + m) 0 / 2 ^ k ≤ 8191 = λ m lt. omega (arith, small m lt, same m lt) in
    record {
      first = sums_next k at block _ _ _ inside few c.loop-at.invariant.first same small c.short_sum-first.ensures;
      second = sums_next (k + 1) at block _ _ _ inside few c.loop-at.invariant.second next
          (λ m lt. omega (arith, next m lt, smaller (get_or block (at + m) 0) k 1 8191 (below m lt))) c.short_sum-second.ensures;
      third = sums_next (k + 2) at block _ _ _ inside few c.loop-at.invariant.third last
          (λ m lt. omega (arith, last m lt, smaller (get_or block (at + m) 0) k 2 8191 (below m lt))) c.short_sum-third.ensures;
      eights = omega (arith, c.loop-at.invariant.eights);
      within = inside;
    }
