use Rattle.std.proofs.Common.{◌≡◌, ◌∙◌, ◌^◌, ℕ, pos, ◌-ℤ◌, subst, ap, arith}
use Rattle.std.proofs.lemmas.Int.{ints}
use Rattle.lanes.specs.Lanes.{place}
use Rattle.wave_inversion.specs.declared.form.Form.{Form}
use Rattle.wave_inversion.specs.Wave.{AreOffsetLines}
use Rattle.wave_inversion.proofs.WaveLines.{centrals_of_lines, rows_of_lines, turned}
use Rattle.wave_inversion.proofs.lower.fill_below.Goals as goal

greatest_is : (f : Form) (bits : ℕ) → f.step.bits ≡ bits → pos (2 ^ bits) -ℤ pos 1 ≡ f.greatest
greatest_is f bits same = let e = f.greatest_is in let power = ap (λ (n : ℕ). 2 ^ n) same in omega (arith, ints, e, power)

pub fill_central_lines-requires-clause-numbers_in : goal.fill_central_lines-requires-clause-numbers_in
fill_central_lines-requires-clause-numbers_in c =
    subst (λ n. AreOffsetLines c.saturating_sub-least.result n c.fill_narrow_lines.new.lines) (greatest_is c.args.form _ c.requires.bits.1) c.fill_narrow_lines.ensures.within

pub fill_central_lines-requires-clause-above_in : goal.fill_central_lines-requires-clause-above_in
fill_central_lines-requires-clause-above_in c =
    subst (λ n. AreOffsetLines c.saturating_sub-least.result n c.fill_narrow_lines-2.new.lines) (greatest_is c.args.form _ c.requires.bits.1) c.fill_narrow_lines-2.ensures.within

pub returns-clause-centrals : goal.returns-clause-centrals
returns-clause-centrals c =
    let least : ℕ = c.saturating_sub-least.result in rw (← c.saturating_sub-least.ensures) (record {
      numbers = turned (λ b i. place c.fill_narrow_lines.new.lines b i) least;
      above = turned (λ b i. place c.fill_narrow_lines-2.new.lines b i) least;
      numbers_is = rows_of_lines (λ b i. place c.fill_narrow_lines.new.lines b i) c.fill_narrow_lines.ensures.numbers;
      above_is = rows_of_lines (λ b i. place c.fill_narrow_lines-2.new.lines b i) c.fill_narrow_lines-2.ensures.numbers;
      rows_are = centrals_of_lines c.args.form.column (λ b i. place c.fill_narrow_lines.new.lines b i) (λ b i. place c.fill_narrow_lines-2.new.lines b i)
          c.turn.new.rows least
          (λ b i m used low high. c.turn.ensures i b (omega (arith, high)) m ∙ c.fill_central_lines.ensures.values b i m used low high)
          (λ b i m l before. c.turn.ensures i b l m ∙ c.fill_central_lines.ensures.none b i m l before);
    })

pub returns-clause-within : goal.returns-clause-within
returns-clause-within c k b h m = rw (c.turn.ensures k b h m) (c.fill_central_lines.ensures.below b k m h)
