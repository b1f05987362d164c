use Rattle.std.proofs.Common.{◌+◌, ◌-◌, ◌*◌, ◌<◌, ◌≡◌, ◌∙◌, ap, sym, arith, inl, inr}
use Rattle.std.proofs.lemmas.Bool.{cases_lt}
use Rattle.lanes.specs.Lanes.{place}
use Rattle.lanes.proofs.turn.turn.Goals as goal

pub loop-k-preserved : goal.loop-k-preserved
loop-k-preserved c i b i-in b-in =
    let k = c.loop-k.k in
    elim (cases_lt i (8 * k)) [
      | inl h ↦ c.put_rows.ensures.before i b h ∙ c.loop-k.invariant i b h b-in
      | inr h ↦
          (let e : 8 * k + (i - 8 * k) ≡ i = omega arith in let j-in : i - 8 * k < 8 = omega arith in
          ap (λ m. place c.put_rows.new.rows m b) (sym e) ∙ c.put_rows.ensures.written (i - 8 * k) b j-in ∙ c.turned.ensures (i - 8 * k) b j-in b-in
          ∙ c.of_lines.ensures b (i - 8 * k) b-in j-in ∙ ap (λ m. place c.args.lines.now b m) e)
    ]
