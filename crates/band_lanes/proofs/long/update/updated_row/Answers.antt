use Rattle.std.proofs.Common.{◌≡◌, ℕ, ◌+◌, ◌-◌, ◌*◌, ◌<◌, ◌∙◌, subst, arith, int_le, w32, inl, inr}
use Rattle.std.proofs.lemmas.Bool.{cases_lt}
use Rattle.lanes.specs.Lanes.{lane}
use Rattle.lanes.proofs.Ranges.{vector}
use Rattle.lanes.proofs.Steps.{kept}
use Rattle.sample_prediction.specs.Weights.{updated_weight}
use Rattle.band_lanes.proofs.long.update.updated_row.Goals as goal

pub loop-j-preserved : goal.loop-j-preserved
loop-j-preserved g c =
    let j : ℕ = c.loop-j.j in let r = vector w32 4 c.updated_part-part.result _ c.updated_part-part.type_inv in record {
      long = c.put_part.ensures.long;
      value = λ k l. elim (cases_lt k (4 * j)) [
        | inl low ↦ c.put_part.ensures.before k low ∙ c.loop-j.invariant.value k low
        | inr high ↦ (let m : k - 4 * j < 4 = omega (arith, l, high) in let back : 4 * j + (k - 4 * j) ≡ k = omega (arith, high) in
            subst (λ i. lane c.put_part.new.row i ≡ updated_weight c.args.step.omega c.args.step.exponent (int_le (lane c.args.own.now i) (lane c.args.predicted.now i))
            (lane c.args.weights.now i) (lane c.args.components.now i)) back
            (c.put_part.ensures.written (k - 4 * j) m ∙ kept w32 c.updated_part-part.result (k - 4 * j) r.1 ∙ c.updated_part-part.ensures (k - 4 * j) m))
      ];
    }

pub returns : goal.returns
returns g c k l = c.loop-j.invariant.value k (let e = c.loop-j.auto.j-end in let f = c.loop-j-test.false in omega (arith, e, f, l))
