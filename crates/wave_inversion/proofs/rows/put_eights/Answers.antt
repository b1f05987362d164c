use Rattle.std.proofs.Common.{◌≡◌, ◌∙◌, ◌+◌, ◌-◌, ◌*◌, ◌/◌, ◌≤◌, ℕ, pos, inl, inr, arith, ap}
use Rattle.std.proofs.lemmas.Bool.{cases_lt}
use Rattle.std.specs.List.{slice_index}
use Rattle.lanes.specs.Lanes.{lane}
use Rattle.wave_inversion.specs.WaveRows.{without_sign}
use Rattle.wave_inversion.proofs.rows.put_eights.Goals as goal

pub loop-k-preserved : goal.loop-k-preserved
loop-k-preserved c =
    let k = c.loop-k.k in let first = c.args.first in let from = c.args.from in
    let kept = c.loop-k.invariant in let put = c.put_eight.ensures in record {
      numbers = λ i lt small. elim (cases_lt i (8 * k)) [
        | inl before ↦ ap without_sign (put.others (first + i) (λ h. omega (arith, h, before))) ∙ kept.numbers i before small
        | inr after ↦
            let step : first + i ≡ first + 8 * k + (i - 8 * k) = omega (arith, after) in
            let column : from + 8 * k + (i - 8 * k) ≡ from + i = omega (arith, after) in
            ap (λ (n : ℕ). without_sign (lane c.put_eight.new.line n)) step
            ∙ put.numbers (i - 8 * k) (omega (arith, lt, after))
            ∙ ap (λ (x : ℕ). pos (slice_index c.args.row.now x)) column
      ];
      others = λ i apart. put.others i (λ h. let far = apart (omega (arith, h)) in omega (arith, far, c.loop-k-test.true, c.requires.many)) ∙ kept.others i apart;
    }

pub returns-clause-numbers : goal.returns-clause-numbers
returns-clause-numbers c i lt =
    let first = c.args.first in let from = c.args.from in let count = c.args.count in
    let many : 8 ≤ count = c.requires.many in
    let done : c.loop-k.k ≡ (count - 1) / 8 = omega (arith, c.loop-k-test.false, c.loop-k.auto.k-end) in
    let put = c.put_eight-2.ensures in
    elim (cases_lt i (count - 8)) [
      | inl before ↦ ap without_sign (put.others (first + i) (λ h. omega (arith, h, before, many))) ∙ c.loop-k.invariant.numbers i (omega (arith, done, before, many)) lt
      | inr after ↦
          let step : first + i ≡ first + count - 8 + (i - (count - 8)) = omega (arith, after, many) in
          let column : from + count - 8 + (i - (count - 8)) ≡ from + i = omega (arith, after, many) in
          ap (λ (n : ℕ). without_sign (lane c.put_eight-2.new.line n)) step
          ∙ put.numbers (i - (count - 8)) (omega (arith, lt, after, many))
          ∙ ap (λ (x : ℕ). pos (slice_index c.args.row.now x)) column
    ]
