use Rattle.std.proofs.Common.{◌≡◌, ◌∙◌, ◌+◌, ◌-◌, ◌<◌, ℤ, pos, ◌-ℤ◌, ◌*ℤ◌, ◌≤ℤ◌, SFits, w16, to_z, of_z, to_z-of_z, rules, arith, ap}
use Rattle.std.proofs.Common.{length, inl, inr, get_or-set_same, get_or-set_other}
use Rattle.std.proofs.lemmas.Bool.{cases_eq}
use Rattle.std.proofs.lemmas.Int.{ints}
use Rattle.std.proofs.lemmas.List.{length-set}
use Rattle.std.proofs.lemmas.Nat.{pow_pos}
use Rattle.lanes.specs.Lanes.{lane}
use Rattle.wave_inversion.proofs.WaveParts.{difference_below}
use Rattle.wave_inversion.proofs.centrals.fill_central_line.Goals as goal

within : (limit : ℤ) {n : ℤ} → SFits w16 n → pos 0 ≤ℤ n → n ≤ℤ limit → (pos 0 ≤ℤ to_z w16 (of_z w16 n)) × (to_z w16 (of_z w16 n) ≤ℤ limit)
within limit fits low high = rw (to_z-of_z fits) (low, high)

pub difference_of-requires-clause-offset_in : goal.difference_of-requires-clause-offset_in
difference_of-requires-clause-offset_in c =
    let fits : SFits w16 (lane c.args.numbers.now c.loop-i.i) = search rules in let n = c.requires.numbers_in c.loop-i.i (omega (arith, c.loop-i-test.true)) in
    let g = c.args.form.greatest_in.1 in within _ fits n.0 (omega (arith, ints, n.1, g))

pub loop-i-preserved : goal.loop-i-preserved
loop-i-preserved c =
    let kept = c.loop-i.invariant in let v = to_z w16 (of_z w16 c.difference_of.result) in let fits : SFits w16 c.difference_of.result = search rules in
    let number : SFits w16 (lane c.args.numbers.now c.loop-i.i) = search rules in let sum : SFits w16 c.sum_at_place-sum.result = search rules in
    let did : c.difference_of.result ≡ pos 4 *ℤ lane c.args.numbers.now c.loop-i.i -ℤ c.sum_at_place-sum.result =
    rw (to_z-of_z number, to_z-of_z sum) at c.difference_of.ensures in
    let here : c.loop-i.i < length c.loop-i.out = omega (arith, kept.long, c.loop-i-test.true) in record {
      long = length-set c.loop-i.out c.loop-i.i v ∙ kept.long;
      first = get_or-set_other c.loop-i.out c.loop-i.i 0 v (pos 0) (λ h. absurd (omega (arith, h, c.loop-i.auto.i))) ∙ kept.first;
      last = get_or-set_other c.loop-i.out c.loop-i.i 63 v (pos 0) (λ h. absurd (omega (arith, h, c.loop-i-test.true))) ∙ kept.last;
      values = λ i low high. elim (cases_eq i c.loop-i.i) [
        | inl same ↦ rw (same, get_or-set_same c.loop-i.out c.loop-i.i v (pos 0) here, to_z-of_z fits)
            (did ∙ ap (λ (s : ℤ). pos 4 *ℤ lane c.args.numbers.now c.loop-i.i -ℤ s) c.sum_at_place-sum.ensures.value)
        | inr apart ↦ get_or-set_other c.loop-i.out c.loop-i.i i v (pos 0) apart ∙ kept.values i low (omega (arith, high, apart))
      ];
    }

pub returns-clause-below : goal.returns-clause-below
returns-clause-below c i l =
    let kept = c.loop-i.invariant in let n = c.requires.numbers_in in let a = c.requires.above_in in let p = pow_pos (c.args.form.step.bits + 2) in
    let done : c.loop-i.i ≡ 63 = omega (arith, c.loop-i-test.false, c.loop-i.auto.i-end) in
    elim (cases_eq i 0) [
      | inl none ↦ rw (none, kept.first) (omega (arith, p))
      | inr some ↦ elim (cases_eq i 63) [
        | inl end ↦ rw (end, kept.last) (omega (arith, p))
        | inr inside ↦ rw (kept.values i (omega (arith, some)) (omega (arith, l, inside, done)))
            (difference_below c.args.form.greatest _ _ _ _ _ c.args.form.column c.args.form.step.bits c.args.form.greatest_is
            (n i l) (n (i - 1) (omega (arith, l))) (a (i - 1) (omega (arith, l))) (a i l) (a (i + 1) (omega (arith, l, inside))))
      ]
    ]
