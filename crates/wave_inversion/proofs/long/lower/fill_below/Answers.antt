use Rattle.std.proofs.Common.{◌≡◌, ◌^◌, ℕ, pos, ◌-ℤ◌, subst, ap, arith}
use Rattle.std.proofs.lemmas.Int.{ints}
use Rattle.lanes.specs.Lanes.{place}
use Rattle.wave_inversion.specs.declared.long.form.LongForm.{LongForm}
use Rattle.wave_inversion.specs.WaveRows.{AreLinesWithin, without_sign}
use Rattle.wave_inversion.proofs.WaveLines.{centrals_of_lines, rows_of_lines, turned}
use Rattle.wave_inversion.proofs.long.lower.fill_below.Goals as goal

greatest_is : (f : LongForm) (bits : ℕ) → f.step.bits ≡ bits → pos (2 ^ bits) -ℤ pos 1 ≡ f.greatest
greatest_is f bits same = let e = f.greatest_is in let power = ap (λ (n : ℕ). 2 ^ n) same in omega (arith, ints, e, power)

pub fill_from_lines-requires-clause-numbers_in : goal.fill_from_lines-requires-clause-numbers_in
fill_from_lines-requires-clause-numbers_in c =
    subst (λ n. AreLinesWithin c.saturating_sub-least.result n c.fill_lines.new.lines) (greatest_is c.args.form _ c.requires.bits) c.fill_lines.ensures.within

pub fill_from_lines-requires-clause-above_in : goal.fill_from_lines-requires-clause-above_in
fill_from_lines-requires-clause-above_in c =
    subst (λ n. AreLinesWithin c.saturating_sub-least.result n c.fill_lines-2.new.lines) (greatest_is c.args.form _ c.requires.bits) c.fill_lines-2.ensures.within

pub returns-clause-centrals : goal.returns-clause-centrals
returns-clause-centrals c =
    let least : ℕ = c.saturating_sub-least.result in rw (← c.saturating_sub-least.ensures) (record {
      numbers = turned (λ b i. without_sign (place c.fill_lines.new.lines b i)) least;
      above = turned (λ b i. without_sign (place c.fill_lines-2.new.lines b i)) least;
      numbers_is = rows_of_lines (λ b i. without_sign (place c.fill_lines.new.lines b i)) c.fill_lines.ensures.numbers;
      above_is = rows_of_lines (λ b i. without_sign (place c.fill_lines-2.new.lines b i)) c.fill_lines-2.ensures.numbers;
      rows_are = centrals_of_lines c.args.form.column (λ b i. without_sign (place c.fill_lines.new.lines b i))
          (λ b i. without_sign (place c.fill_lines-2.new.lines b i)) c.fill_from_lines.new.rows least
          c.fill_from_lines.ensures.values c.fill_from_lines.ensures.none;
    })
