use Rattle.std.proofs.Math.Nat.{mod-lt}
use Rattle.std.proofs.Common.{◌≡◌, ℕ, ◌+◌, ◌%◌, ◌^◌, ◌<◌, lit<, ℤ, pos, ◌+ℤ◌, ◌*ℤ◌, ◌≤ℤ◌, SFits, w32, to_z, of_z, to_z-of_z, rules, arith, ◌∙◌}
use Rattle.std.specs.Int.{int_min, int_max}
use Rattle.std.proofs.lemmas.Int.{ints, clamps}
use Rattle.predict_core.proofs.Numbers.{kept_sum}
use Rattle.predict_core.proofs.mapping.scaled_offset.Goals as goal
use Rattle.predict_core.proofs.mapping.scaled_offset.Goals.{After-max}

one_more : (u : ℤ) (n : ℕ) → n < 2 ^ 32 → to_z w32 n ≤ℤ (pos 2 *ℤ u +ℤ pos 1) → (pos 2 *ℤ u) ≤ℤ to_z w32 n
    → to_z w32 (of_z w32 (to_z w32 (of_z w32 u) +ℤ pos 1)) ≡ u +ℤ pos 1
one_more u n f h k = omega (arith, ints)

top_is : (g : ℤ) → pos 1 ≤ℤ g → g ≤ℤ pos 65535 → to_z w32 (of_z w32 (to_z w32 (of_z w32 (pos 2 *ℤ to_z w32 (of_z w32 g))) +ℤ pos 1)) ≡ pos 2 *ℤ g +ℤ pos 1
top_is g h k = omega (arith, ints)

held : (c : After-max)
    → to_z w32 (of_z w32 c.max.result) ≡ int_max (int_min (c.prediction_of-upper.result +ℤ pos 1) (pos 2 *ℤ c.args.greatest +ℤ pos 1)) (pos 0)
held c =
    let g = c.requires.greatest_in in
    let more = one_more c.prediction_of-upper.result
    ((of_z w32 c.args.part + of_z w32 c.args.sum) % 4294967296) (mod-lt _ (lit< tt)) c.prediction_of-upper.ensures.high c.prediction_of-upper.ensures.low in
    let min_fits : SFits w32 c.min.result = search rules in let max_fits : SFits w32 c.max.result = search rules in
    let a = rw (more, top_is c.args.greatest g.0 g.1) at c.min.ensures.value in to_z-of_z max_fits ∙ rw (to_z-of_z min_fits, a) at c.max.ensures.value

pub returns-clause-bounds : goal.returns-clause-bounds
returns-clause-bounds c =
    let e = held (goal.at.returns-clause-bounds c).After-max in let g = c.requires.greatest_in in
    rw e (omega (arith, ints, clamps, g.0), omega (arith, ints, clamps, g.0))

pub returns-clause-value : goal.returns-clause-value
returns-clause-value c p l m =
    let e = held (goal.at.returns-clause-value c).After-max in let half = rw (kept_sum c.args.part c.args.sum p l m) at c.prediction_of-upper.ensures.value in
    rw (e, half) (omega (arith, ints, clamps))
