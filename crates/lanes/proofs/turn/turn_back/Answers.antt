use Rattle.std.proofs.Common.{◌+◌, ◌-◌, ◌*◌, ◌<◌, ◌≡◌, ◌∙◌, ap, sym, arith, inl, inr}
use Rattle.std.proofs.lemmas.Bool.{cases_lt}
use Rattle.lanes.specs.Lanes.{place}
use Rattle.lanes.proofs.turn.turn_back.Goals as goal

pub loop-k-preserved : goal.loop-k-preserved
loop-k-preserved c i b i-in b-in =
    let k = c.loop-k.k in
    elim (cases_lt i (8 * k)) [
      | inl h ↦ c.put_lines.ensures.before b i b-in h ∙ c.loop-k.invariant i b h b-in
      | inr h ↦
          (let e : 8 * k + (i - 8 * k) ≡ i = omega arith in let j-in : i - 8 * k < 8 = omega arith in
          ap (λ m. place c.put_lines.new.lines b m) (sym e) ∙ c.put_lines.ensures.written b (i - 8 * k) b-in j-in ∙ c.turned.ensures b (i - 8 * k) b-in j-in
          ∙ c.of_rows.ensures (i - 8 * k) b j-in ∙ ap (λ m. place c.args.rows.now m b) e)
    ]
