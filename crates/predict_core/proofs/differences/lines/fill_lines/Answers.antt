use Rattle.std.proofs.Common.{◌≡◌, ◌<◌, ◌+◌, ℕ, Bool, true, false, get_or, refl, sym, ◌∙◌, arith}
use Rattle.std.proofs.lemmas.Grind.{common_steps}
use Rattle.sample_prediction.specs.Lines.{bordered_above, AreLines}
use Rattle.predict_core.proofs.Borders.{column_lines, four_lines, first_lines}
use Rattle.predict_core.proofs.differences.lines.fill_lines.Goals as goal

pub returns-else-y-eq0 : goal.returns-else-y-eq0
returns-else-y-eq0 c = by_sums c.args.column refl (rw (c.x-x.ensures, c.count-count.ensures) at c.fill_line_above.ensures)
  where
    by_sums : (b : Bool) → c.args.column ≡ b
        → ((k : ℕ) → k < c.args.run.now.count + 2 → get_or c.fill_line_above.new.upper k 0 ≡ get_or (bordered_above b c.args.above.now) (c.args.run.now.x + k) 0)
        → AreLines b c.args.run.now.y c.args.row.now c.args.above.now c.args.run.now.x c.args.run.now.count c.fill_line.new.line c.fill_line_above.new.upper
    by_sums true e far = column_lines _ _ _ _ _ _ _ _ _ (λ n. c.if-y-eq0.false (c.y.ensures ∙ n)) c.requires.inside c.requires.same
        (rw (c.x-x.ensures, c.count-count.ensures) at c.fill_line.ensures) far
    by_sums false e far = four_lines _ _ _ _ _ _ _ _ (λ n. c.if-y-eq0.false (c.y.ensures ∙ n)) c.requires.inside c.requires.same (c.requires.wide e)
        (rw (c.x-x.ensures, c.count-count.ensures) at c.fill_line.ensures) far

pub returns-then-y-eq0 : goal.returns-then-y-eq0
returns-then-y-eq0 c = first_lines _ _ _ _ _ _ _ _ _ _ (sym c.y.ensures ∙ c.if-y-eq0.true) c.requires.inside
    (rw (c.x-x.ensures, c.count-count.ensures) at c.fill_line.ensures) (grind (arith, common_steps))
