use Rattle.std.proofs.Common.{ℕ, ◌≡◌, ◌-◌, ◌^◌, ◌<◌, IsTrue, ap, ◌∙◌, arith}
use Rattle.lanes.specs.Lanes.{number}
use Rattle.lanes.proofs.Plain.{splat}
use Rattle.sample_adaptive.proofs.ColumnLanes.{IsShortWord, short_lane}
use Rattle.sample_adaptive.proofs.column_lanes.short_words.Goals as goal
use Rattle.sample_adaptive.proofs.column_lanes.short_words.Goals.{After-are_within-fit}

module _ (c : After-are_within-fit) where
  word : IsTrue c.are_within-fit.result → (j : ℕ) → j < 8 → IsShortWord c.args.limit (number c.args.k j) (number c.args.residuals j) (number c.short_sum-bits.result j) (number c.short_sum-lengths.result j)
  word fit j lt =
      let k : ℕ = number c.args.k j in
      let le = c.requires.parameters j lt in
      let one : number c.short-ones.result j ≡ 2 ^ k = c.short-ones.ensures j lt ∙ c.powers.ensures j lt in
      let inverse : number c.short-inverses.result j ≡ 2 ^ (15 - k) =
      c.short-inverses.ensures j lt ∙ c.powers-2.ensures j lt ∙ ap (λ n. 2 ^ n) (c.less.ensures j lt (omega (arith, le))) in
      let same : number c.short-k.result j ≡ k = c.short-k.ensures j lt in
      short_lane c.args.limit k (number c.args.residuals j) (number c.short-ones.result j) (number c.short-inverses.result j) (number c.capped-held.result j)
      (number c.short_sum.result j) (number c.high_products-quotients.result j) (number c.short_sum-2.result j) (number c.short_sum-lengths.result j)
      (number c.short_sum-3.result j) (number c.capped-most.result j) (number c.rests.result j) (number c.short_sum-bits.result j) le c.requires.limit one inverse
      (c.capped-held.ensures j lt) (c.short_sum.ensures j lt) (c.high_products-quotients.ensures j lt) (rw same at (c.short_sum-2.ensures j lt))
      (rw (splat 8 j 1 lt) at (c.short_sum-lengths.ensures j lt)) (rw (same, splat 8 j c.args.limit lt) at (c.short_sum-3.ensures j lt)) (c.capped-most.ensures j lt)
      (c.rests.ensures j k lt one) (c.short_sum-bits.ensures j lt) (c.are_within-fit.ensures fit j lt)

pub returns-clause-short : goal.returns-clause-short
returns-clause-short c fit = record { length = λ j lt. (word c fit j lt).short; below = λ j lt. (word c fit j lt).below }

pub returns-clause-text : goal.returns-clause-text
returns-clause-text c fit j bits lt = (word c fit j lt).text bits
