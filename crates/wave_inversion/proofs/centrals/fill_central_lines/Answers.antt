use Rattle.std.proofs.Common.{◌∙◌, inl, inr, arith}
use Rattle.std.proofs.lemmas.Bool.{cases_eq}
use Rattle.wave_inversion.proofs.centrals.fill_central_lines.Goals as goal

pub loop-b-preserved : goal.loop-b-preserved
loop-b-preserved c =
    let kept = c.loop-b.invariant in let did = c.put_central_line.ensures in record {
      long = c.put_central_line.array_long;
      values = λ b i l used low high. elim (cases_eq b c.loop-b.b) [
        | inl here ↦ rw here (did.values i (rw here at used) low high)
        | inr apart ↦ did.others b i apart ∙ kept.values b i (omega (arith, l, apart)) used low high
      ];
      none = λ b i l m out. elim (cases_eq b c.loop-b.b) [
        | inl here ↦ rw here (did.none i m (rw here at out))
        | inr apart ↦ did.others b i apart ∙ kept.none b i (omega (arith, l, apart)) m out
      ];
      below = λ b i l m. elim (cases_eq b c.loop-b.b) [
        | inl here ↦ rw here (did.below i m)
        | inr apart ↦ rw (did.others b i apart) (kept.below b i (omega (arith, l, apart)) m)
      ];
    }
