use Rattle.std.proofs.Common.{◌≡◌, ◌∙◌, sym, subst, arith, inl, inr}
use Rattle.std.proofs.lemmas.Bool.{cases_eq}
use Rattle.lanes.specs.Lanes.{place}
use Rattle.lanes.proofs.TurningFour.{four}
use Rattle.lanes.proofs.turn_four.turn_four_back.Goals as goal

pub loop-i-preserved : goal.loop-i-preserved
loop-i-preserved c i b l b-in =
    let p = c.put_lane.ensures in let q = c.put_lane-in-loop-i.ensures in let r = c.put_lane-in-loop-i-2.ensures in let s = c.put_lane-in-loop-i-3.ensures in
    elim (cases_eq i c.loop-i.i) [
      | inl e ↦ subst (λ k. place c.put_lane-in-loop-i-3.new.lines b k ≡ place c.args.rows.now k b) (sym e)
          (four (λ b. place c.put_lane-in-loop-i-3.new.lines b c.loop-i.i ≡ place c.args.rows.now c.loop-i.i b)
          (s.lines 0 c.loop-i.i (omega arith) ∙ r.lines 0 c.loop-i.i (omega arith) ∙ q.lines 0 c.loop-i.i (omega arith) ∙ p.here)
          (s.lines 1 c.loop-i.i (omega arith) ∙ r.lines 1 c.loop-i.i (omega arith) ∙ q.here)
          (s.lines 2 c.loop-i.i (omega arith) ∙ r.here) s.here b b-in)
      | inr n ↦ s.places b i n ∙ r.places b i n ∙ q.places b i n ∙ p.places b i n ∙ c.loop-i.invariant i b (omega (arith, l, n)) b-in
    ]
