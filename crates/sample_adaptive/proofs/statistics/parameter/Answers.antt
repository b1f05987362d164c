use Rattle.std.proofs.Common.{◌≡◌, ◌-◌, ◌*◌, ◌%◌, ◌<◌, ◌≤◌, ◌^◌, ℕ, min, ltb, inl, inr, arith, sym, ◌∙◌}
use Rattle.std.proofs.lemmas.Bool.{cases_lt, lt-ltb, le-ltb}
use mir.Val.{bool_byte}
use Rattle.sample_adaptive.specs.declared.statistics.Statistics.{Statistics}
use Rattle.sample_adaptive.specs.Statistics.{level, code_parameter}
use Rattle.sample_adaptive.proofs.Counting.{IsShift, code_parameter_small, logs_order, shift_is, parameter_within, parameter_beyond}
use Rattle.sample_adaptive.proofs.statistics.parameter.Goals as goal

-- the parameter is one less where the shifted counter is beyond the level
by_test : (bits : ℕ) (s : Statistics) (shift less : ℕ) → 2 * s.counter ≤ level s → IsShift s.counter (level s) shift
    → less ≡ bool_byte (ltb (level s) (s.counter * 2 ^ shift % 4294967296)) → min (shift - less) (bits - 2) ≡ code_parameter bits s
by_test bits s shift less large h is =
    elim (cases_lt (level s) (s.counter * 2 ^ shift % 4294967296)) [
      | inl lt ↦ (let one : less ≡ 1 = rw (lt-ltb _ _ lt) at is in rw one (sym (parameter_beyond bits s shift large h lt)))
      | inr le ↦ (let none : less ≡ 0 = rw (le-ltb _ _ le) at is in let same : shift - less ≡ shift = omega (arith, none) in
          rw same (sym (parameter_within bits s shift large h le)))
    ]

pub returns-then-level-s-clause-value : goal.returns-then-level-s-clause-value
returns-then-level-s-clause-value c = code_parameter_small c.args.bits c.args.s (omega (arith, c.level-level.ensures, c.if-level-s.true))

pub overflow_sub-shift : goal.overflow_sub-shift
overflow_sub-shift c =
    let is = c.level-level.ensures in
    logs_order c.args.s.counter (level c.args.s) _ _ (omega (arith, is, c.if-level-s.false)) c.ilog2-2.ensures.power_le (rw is at c.ilog2.ensures.next_power_gt)

pub returns-clause-value : goal.returns-clause-value
returns-clause-value c =
    let s = c.args.s in
    let is = c.level-level.ensures in
    let small : level s < 2 ^ 31 = omega (arith, c.requires.counter, c.requires.accumulator) in
    let large : 2 * s.counter ≤ level s = omega (arith, is, c.if-level-s.false) in
    let high = c.ilog2.ensures in
    let low = c.ilog2-2.ensures in
    let shift = shift_is s.counter (level s) _ _ (omega (arith, large)) small low.power_le low.next_power_gt (rw is at high.power_le)
    (rw is at high.next_power_gt) in
    c.min.ensures ∙ by_test c.args.bits s _ _ large shift (rw is at c.from-less.ensures)
