use Rattle.std.proofs.Common.{◌∙◌, ◌+◌, ◌<◌, [], length, get_or-set_same, get_or-set_other, inl, inr, arith}
use Rattle.std.proofs.lemmas.Bool.{cases_eq}
use Rattle.std.proofs.lemmas.List.{length-set}
use Rattle.std.proofs.lemmas.Nat.{pow_pos}
use Rattle.wave_inversion.proofs.centrals.fill_centrals.Goals as goal

pub loop-i-init : goal.loop-i-init
loop-i-init c = record {
  long = c.clear_rows.array_long;
  values = λ i b low high. absurd (omega (arith, low, high));
  below = λ i b l m. rw (c.clear_rows.ensures i b l m) (let p = pow_pos (c.args.form.step.bits + 2) in omega (arith, p));
}

pub loop-i-preserved : goal.loop-i-preserved
loop-i-preserved c =
    let kept = c.loop-i.invariant in let did = c.central_at-row.ensures in
    let fits : c.loop-i.i < length c.loop-i.out = omega (arith, kept.long, c.loop-i-test.true, c.requires.last) in record {
      long = length-set c.loop-i.out c.loop-i.i c.central_at-row.result ∙ kept.long;
      values = λ i b low high m. elim (cases_eq i c.loop-i.i) [
        | inl here ↦ rw (here, get_or-set_same c.loop-i.out c.loop-i.i c.central_at-row.result [] fits) (did.value b m)
        | inr apart ↦ rw (get_or-set_other c.loop-i.out c.loop-i.i i c.central_at-row.result [] apart) (kept.values i b low (omega (arith, high, apart)) m)
      ];
      below = λ i b l m. elim (cases_eq i c.loop-i.i) [
        | inl here ↦ rw (here, get_or-set_same c.loop-i.out c.loop-i.i c.central_at-row.result [] fits) (did.below b m)
        | inr apart ↦ rw (get_or-set_other c.loop-i.out c.loop-i.i i c.central_at-row.result [] apart) (kept.below i b l m)
      ];
    }
