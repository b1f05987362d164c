use Rattle.std.proofs.Common.{◌≡◌, ◌+◌, true, [], ◌∷◌, pos, ℤ, arith, ap, sym, ◌∙◌, inl, inr}
use Rattle.std.proofs.lemmas.Bool.{cases_eq}
use Rattle.sample_prediction.specs.Lines.{line_difference, line_north}
use Rattle.sample_prediction.specs.Differences.{directional_differences}
use Rattle.predict_core.proofs.Quads.{at_top, under_top, first_at_top, first_under, empty_difference}
use Rattle.predict_core.proofs.differences.room.fill_first.Goals as goal

pub returns-then-y-eq0-clause-quad : goal.returns-then-y-eq0-clause-quad
returns-then-y-eq0-clause-quad c = λ i l h.
    let s = c.args.settings.now in let below = rw (at_top s.predictor.column c.args.run.now.y (sym c.y.ensures ∙ c.if-y-eq0.true)) at (c.fill_below.ensures i l h) in
    let none : line_difference true c.empty-none.result.current c.empty-none.result.above i ≡ pos 0 =
    empty_difference true _ _ i c.empty-none.ensures.current c.empty-none.ensures.above in
    first_at_top s.predictor c.args.run.now.image s.band c.args.run.now.y (c.args.run.now.x + i) _ _ _ _ _ below (sym c.y.ensures ∙ c.if-y-eq0.true) none none none (c.fill_four.ensures i (omega arith))

pub returns-then-x-eq0-clause-quad : goal.returns-then-x-eq0-clause-quad
returns-then-x-eq0-clause-quad c = λ i l h.
    let s = c.args.settings.now in let column = under_top s.predictor.column c.args.run.now.y (λ n. c.if-y-eq0.false (c.y.ensures ∙ n)) in
    let below = rw column at (c.fill_below.ensures i l h) in elim (cases_eq i 0) [
      | inl e ↦ (let first = c.fill_directions.ensures.quads 0 (omega arith) in
          let north : ℤ = line_north s.predictor.column c.args.lines.now.current c.args.lines.now.above 0 in
          let same : directional_differences s.predictor c.args.run.now.image s.band c.args.run.now.y (c.args.run.now.x + i) ≡ north ∷ north ∷ north ∷ [] =
          ap (λ k. directional_differences s.predictor c.args.run.now.image s.band c.args.run.now.y k) (omega (arith, e))
          ∙ rw column at (c.requires.lines.first_directions (omega arith) (sym c.x.ensures ∙ c.if-x-eq0.true)) in
          first_under s.predictor _ s.band _ (c.args.run.now.x + i) north north north _ _ below same (rw e (c.repeat_north.ensures.first _ _ _ _ first)))
      | inr n ↦ (let along = rw column at (c.requires.lines.directions i l (omega arith) (omega (arith, n))) in
          first_under s.predictor _ s.band _ (c.args.run.now.x + i) _ _ _ _ _ below along
          (c.repeat_north.ensures.others i (omega (arith, n)) ∙ c.fill_directions.ensures.quads i (omega arith)))
    ]

pub returns-else-x-eq0-clause-quad : goal.returns-else-x-eq0-clause-quad
returns-else-x-eq0-clause-quad c = λ i l h.
    let s = c.args.settings.now in let column = under_top s.predictor.column c.args.run.now.y (λ n. c.if-y-eq0.false (c.y.ensures ∙ n)) in
    let below = rw column at (c.fill_below.ensures i l h) in let along = rw column at (c.requires.lines.directions i l (omega arith) (omega arith)) in
    first_under s.predictor c.args.run.now.image s.band c.args.run.now.y (c.args.run.now.x + i) _ _ _ _ _ below along (c.fill_directions.ensures.quads i (omega arith))

pub returns-then-y-eq0-clause-sums : goal.returns-then-y-eq0-clause-sums
returns-then-y-eq0-clause-sums c = rw (at_top c.args.settings.now.predictor.column c.args.run.now.y (sym c.y.ensures ∙ c.if-y-eq0.true)) c.fill_own.ensures.sums

pub returns-then-y-eq0-clause-own : goal.returns-then-y-eq0-clause-own
returns-then-y-eq0-clause-own c = rw (at_top c.args.settings.now.predictor.column c.args.run.now.y (sym c.y.ensures ∙ c.if-y-eq0.true)) c.fill_own.ensures.own

pub returns-then-x-eq0-clause-sums : goal.returns-then-x-eq0-clause-sums
returns-then-x-eq0-clause-sums c = rw (under_top c.args.settings.now.predictor.column c.args.run.now.y (λ n. c.if-y-eq0.false (c.y.ensures ∙ n))) c.fill_directions.ensures.sums

pub returns-then-x-eq0-clause-own : goal.returns-then-x-eq0-clause-own
returns-then-x-eq0-clause-own c = rw (under_top c.args.settings.now.predictor.column c.args.run.now.y (λ n. c.if-y-eq0.false (c.y.ensures ∙ n))) c.fill_directions.ensures.own

pub returns-else-x-eq0-clause-sums : goal.returns-else-x-eq0-clause-sums
returns-else-x-eq0-clause-sums c = rw (under_top c.args.settings.now.predictor.column c.args.run.now.y (λ n. c.if-y-eq0.false (c.y.ensures ∙ n))) c.fill_directions.ensures.sums

pub returns-else-x-eq0-clause-own : goal.returns-else-x-eq0-clause-own
returns-else-x-eq0-clause-own c = rw (under_top c.args.settings.now.predictor.column c.args.run.now.y (λ n. c.if-y-eq0.false (c.y.ensures ∙ n))) c.fill_directions.ensures.own
