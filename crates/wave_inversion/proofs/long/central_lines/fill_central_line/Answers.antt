use Rattle.std.proofs.Common.{◌≡◌, ◌∙◌, ◌+◌, ◌-◌, ◌<◌, ℕ, ℤ, pos, ◌≤ℤ◌, SFits, w32, to_z, of_z, to_z-of_z, rules, length, inl, inr, arith, set, subst, sym, get_or-set_same, get_or-set_other}
use Rattle.std.proofs.lemmas.Bool.{cases_eq}
use Rattle.std.proofs.lemmas.Int.{ints}
use Rattle.std.proofs.lemmas.List.{length-set}
use Rattle.std.proofs.lemmas.Nat.{pow_pos}
use Rattle.lanes.specs.Lanes.{lane}
use Rattle.wave_inversion.specs.WaveRows.{central_along, without_sign}
use Rattle.wave_inversion.proofs.WaveParts.{difference_below}
use Rattle.wave_inversion.proofs.long.central_lines.fill_central_line.Goals as goal

-- a number without a sign is at least 0
at_least : (limit z : ℤ) → without_sign z ≤ℤ limit → (pos 0 ≤ℤ without_sign z) × (without_sign z ≤ℤ limit)
at_least limit z h = (omega (arith, ints), h)

pub loop-i-preserved : goal.loop-i-preserved
loop-i-preserved c =
    let kept = c.loop-i.invariant in let v = to_z w32 (of_z w32 c.central_at.result) in let fits : SFits w32 c.central_at.result = search rules in
    let here : c.loop-i.i < length c.loop-i.out = omega (arith, kept.long, c.loop-i-test.true) in record {
      long = length-set c.loop-i.out c.loop-i.i v ∙ kept.long;
      first = get_or-set_other c.loop-i.out c.loop-i.i 0 v (pos 0) (λ h. absurd (omega (arith, h, c.loop-i.auto.i))) ∙ kept.first;
      last = get_or-set_other c.loop-i.out c.loop-i.i 63 v (pos 0) (λ h. absurd (omega (arith, h, c.loop-i-test.true))) ∙ kept.last;
      values = λ i low high. elim (cases_eq i c.loop-i.i) [
        | inl same ↦ subst (λ (k : ℕ). lane (set c.loop-i.out c.loop-i.i v) k ≡ central_along c.args.form.column c.args.numbers.now c.args.above.now k) (sym same)
            (get_or-set_same c.loop-i.out c.loop-i.i v (pos 0) here ∙ to_z-of_z fits ∙ c.central_at.ensures)
        | inr apart ↦ get_or-set_other c.loop-i.out c.loop-i.i i v (pos 0) apart ∙ kept.values i low (omega (arith, high, apart))
      ];
    }

pub returns-clause-below : goal.returns-clause-below
returns-clause-below c i l =
    let kept = c.loop-i.invariant in let g = c.args.form.greatest in let n = c.requires.numbers_in in let a = c.requires.above_in in
    let own : ℕ → ℤ = λ i. lane c.args.numbers.now i in let north : ℕ → ℤ = λ i. lane c.args.above.now i in
    let p = pow_pos (c.args.form.step.bits + 2) in let done : c.loop-i.i ≡ 63 = omega (arith, c.loop-i-test.false, c.loop-i.auto.i-end) in
    elim (cases_eq i 0) [
      | inl none ↦ rw (none, kept.first) (omega (arith, p))
      | inr some ↦ elim (cases_eq i 63) [
        | inl end ↦ rw (end, kept.last) (omega (arith, p))
        | inr inside ↦ rw (kept.values i (omega (arith, some)) (omega (arith, l, inside, done)))
            (difference_below g _ _ _ _ _ c.args.form.column c.args.form.step.bits c.args.form.greatest_is
            (at_least g (own i) (n i l)) (at_least g (own (i - 1)) (n (i - 1) (omega (arith, l))))
            (at_least g (north (i - 1)) (a (i - 1) (omega (arith, l)))) (at_least g (north i) (a i l))
            (at_least g (north (i + 1)) (a (i + 1) (omega (arith, l, inside)))))
      ]
    ]
