use Rattle.std.proofs.Common.{◌≡◌, ◌∙◌, ℕ, inl, inr, arith, subst, sym}
use Rattle.std.proofs.lemmas.Bool.{cases_eq}
use Rattle.lanes.specs.Lanes.{place}
use Rattle.wave_inversion.specs.Wave.{line_of}
use Rattle.wave_inversion.specs.WaveRows.{central_along}
use Rattle.wave_inversion.proofs.long.central_lines.fill_from_lines.Goals as goal

pub loop-b-preserved : goal.loop-b-preserved
loop-b-preserved c =
    let kept = c.loop-b.invariant in let written = c.fill_lane.ensures in record {
      values = λ b i l used low high. elim (cases_eq b c.loop-b.b) [
        | inl same ↦ subst (λ (k : ℕ). place c.fill_lane.new.rows i k ≡ central_along c.args.form.column (line_of c.args.numbers.now k) (line_of c.args.above.now k) i)
            (sym same) (written.values i low high)
        | inr apart ↦ written.others i b apart ∙ kept.values b i (omega (arith, l, apart)) used low high
      ];
      none = λ b i l h before. written.others i b (λ same. omega (arith, same, before, c.loop-b.auto.b)) ∙ kept.none b i l h before;
      below = λ i b h l. elim (cases_eq b c.loop-b.b) [
        | inl same ↦ rw same (written.below i h)
        | inr apart ↦ rw (written.others i b apart) (kept.below i b h l)
      ];
    }
