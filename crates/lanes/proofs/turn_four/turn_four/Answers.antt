use Rattle.std.proofs.Common.{ℕ, ◌+◌, ◌-◌, ◌*◌, ◌<◌, ◌≤◌, ◌≡◌, ◌∙◌, [], ◌∷◌, ap, sym, arith, inl, inr, w32, map, to_z, of_z}
use Rattle.std.proofs.lemmas.Bool.{cases_lt}
use Rattle.lanes.specs.Lanes.{lane, place}
use Rattle.lanes.proofs.Ranges.{vector}
use Rattle.lanes.proofs.Steps.{kept}
use Rattle.lanes.proofs.turn_four.turn_four.Goals as goal

pub loop-k-preserved : goal.loop-k-preserved
loop-k-preserved c =
    let k : ℕ = c.loop-k.k in
    let written : (b i : ℕ) → b < 4 → i < 4 * (k + 1) → 4 * k ≤ i → place c.put_four.new.rows i b
    ≡ place (map (to_z w32) (map (of_z w32) c.part_of.result) ∷ map (to_z w32) (map (of_z w32) c.part_of-in-loop-k.result) ∷ map (to_z w32) (map (of_z w32) c.part_of-in-loop-k-2.result)
    ∷ map (to_z w32) (map (of_z w32) c.part_of-in-loop-k-3.result) ∷ []) b (i - 4 * k) = λ b i b-in l h.
    (let e : 4 * k + (i - 4 * k) ≡ i = omega (arith, h) in let j-in : i - 4 * k < 4 = omega (arith, l, h) in
    ap (λ m. place c.put_four.new.rows m b) (sym e) ∙ c.put_four.ensures.written (i - 4 * k) b j-in ∙ c.turned_four.ensures (i - 4 * k) b j-in b-in) in record {
      first = λ i l. elim (cases_lt i (4 * k)) [
        | inl h ↦ c.put_four.ensures.before i 0 h ∙ c.loop-k.invariant.first i h
        | inr h ↦ (let e : 4 * k + (i - 4 * k) ≡ i = omega (arith, h) in
            written 0 i (omega arith) l h ∙ kept w32 c.part_of.result (i - 4 * k) (vector w32 4 _ _ c.part_of.type_inv).1 ∙ c.part_of.ensures (i - 4 * k) (omega (arith, l, h)) ∙ ap (λ m. lane c.args.first.now m) e)
      ];
      second = λ i l. elim (cases_lt i (4 * k)) [
        | inl h ↦ c.put_four.ensures.before i 1 h ∙ c.loop-k.invariant.second i h
        | inr h ↦ (let e : 4 * k + (i - 4 * k) ≡ i = omega (arith, h) in
            written 1 i (omega arith) l h ∙ kept w32 c.part_of-in-loop-k.result (i - 4 * k) (vector w32 4 _ _ c.part_of-in-loop-k.type_inv).1 ∙ c.part_of-in-loop-k.ensures (i - 4 * k) (omega (arith, l, h)) ∙ ap (λ m. lane c.args.second.now m) e)
      ];
      third = λ i l. elim (cases_lt i (4 * k)) [
        | inl h ↦ c.put_four.ensures.before i 2 h ∙ c.loop-k.invariant.third i h
        | inr h ↦ (let e : 4 * k + (i - 4 * k) ≡ i = omega (arith, h) in
            written 2 i (omega arith) l h ∙ kept w32 c.part_of-in-loop-k-2.result (i - 4 * k) (vector w32 4 _ _ c.part_of-in-loop-k-2.type_inv).1 ∙ c.part_of-in-loop-k-2.ensures (i - 4 * k) (omega (arith, l, h)) ∙ ap (λ m. lane c.args.third.now m) e)
      ];
      fourth = λ i l. elim (cases_lt i (4 * k)) [
        | inl h ↦ c.put_four.ensures.before i 3 h ∙ c.loop-k.invariant.fourth i h
        | inr h ↦ (let e : 4 * k + (i - 4 * k) ≡ i = omega (arith, h) in
            written 3 i (omega arith) l h ∙ kept w32 c.part_of-in-loop-k-3.result (i - 4 * k) (vector w32 4 _ _ c.part_of-in-loop-k-3.type_inv).1 ∙ c.part_of-in-loop-k-3.ensures (i - 4 * k) (omega (arith, l, h)) ∙ ap (λ m. lane c.args.fourth.now m) e)
      ];
    }
