use Rattle.std.proofs.Common.{◌≡◌, ◌∙◌, ◌+◌, ◌-◌, ℤ, pos, ◌+ℤ◌, ◌≤ℤ◌, SFits, w16, to_z, of_z, to_z-of_z, rules, arith, ap₂}
use Rattle.std.proofs.lemmas.Int.{ints}
use Rattle.lanes.specs.Lanes.{lane}
use Rattle.wave_inversion.proofs.centrals.sum_at_place.Goals as goal

within : (limit : ℤ) {n : ℤ} → SFits w16 n → pos 0 ≤ℤ n → n ≤ℤ limit → (pos 0 ≤ℤ to_z w16 (of_z w16 n)) × (to_z w16 (of_z w16 n) ≤ℤ limit)
within limit fits low high = rw (to_z-of_z fits) (low, high)

sum_is : {r a b : ℤ} → SFits w16 a → SFits w16 b → r ≡ to_z w16 (of_z w16 a) +ℤ to_z w16 (of_z w16 b) → r ≡ a +ℤ b
sum_is f g e = e ∙ ap₂ (λ (m n : ℤ). m +ℤ n) (to_z-of_z f) (to_z-of_z g)

pub sum_of-requires-clause-a_in : goal.sum_of-requires-clause-a_in
sum_of-requires-clause-a_in c =
    let fits : SFits w16 c.sum_of-twice.result = search rules in let north : SFits w16 (lane c.args.above.now c.args.i) = search rules in
    let a = c.requires.above_in c.args.i (omega (arith, c.requires.place.1)) in
    let g = c.args.form.greatest_in.1 in let e = sum_is north north c.sum_of-twice.ensures in
    within _ fits (omega (arith, ints, e, a.0)) (omega (arith, ints, e, a.1, g))

pub sum_of-requires-clause-b_in : goal.sum_of-requires-clause-b_in
sum_of-requires-clause-b_in c =
    let fits : SFits w16 c.sum_of-twice.result = search rules in let north : SFits w16 (lane c.args.above.now c.args.i) = search rules in
    let a = c.requires.above_in c.args.i (omega (arith, c.requires.place.1)) in
    let g = c.args.form.greatest_in.1 in let e = sum_is north north c.sum_of-twice.ensures in
    within _ fits (omega (arith, ints, e, a.0)) (omega (arith, ints, e, a.1, g))

pub sum_of-north-requires-clause-a_in : goal.sum_of-north-requires-clause-a_in
sum_of-north-requires-clause-a_in c =
    let fits : SFits w16 (lane c.args.above.now c.args.i) = search rules in let a = c.requires.above_in c.args.i (omega (arith, c.requires.place.1)) in
    let g = c.args.form.greatest_in.1 in within _ fits a.0 (omega (arith, ints, a.1, g))

pub sum_of-north-requires-clause-b_in : goal.sum_of-north-requires-clause-b_in
sum_of-north-requires-clause-b_in c =
    let fits : SFits w16 (lane c.args.above.now (c.args.i + 1)) = search rules in
    let a = c.requires.above_in (c.args.i + 1) (omega (arith, c.requires.place.1)) in
    let g = c.args.form.greatest_in.1 in within _ fits a.0 (omega (arith, ints, a.1, g))

pub sum_of-requires-else-form-clause-a_in : goal.sum_of-requires-else-form-clause-a_in
sum_of-requires-else-form-clause-a_in c =
    let fits : SFits w16 c.sum_of-west.result = search rules in let west : SFits w16 (lane c.args.numbers.now (c.args.i - 1)) = search rules in
    let north_west : SFits w16 (lane c.args.above.now (c.args.i - 1)) = search rules in
    let a = c.requires.above_in (c.args.i - 1) (omega (arith, c.requires.place.1)) in
    let n = c.requires.numbers_in (c.args.i - 1) (omega (arith, c.requires.place.1)) in
    let g = c.args.form.greatest_in.1 in let e = sum_is west north_west c.sum_of-west.ensures in
    within _ fits (omega (arith, ints, e, a.0, n.0)) (omega (arith, ints, e, a.1, n.1, g))

pub sum_of-requires-else-form-clause-b_in : goal.sum_of-requires-else-form-clause-b_in
sum_of-requires-else-form-clause-b_in c =
    let fits : SFits w16 c.sum_of-north.result = search rules in let north : SFits w16 (lane c.args.above.now c.args.i) = search rules in
    let north_east : SFits w16 (lane c.args.above.now (c.args.i + 1)) = search rules in
    let a = c.requires.above_in c.args.i (omega (arith, c.requires.place.1)) in
    let n = c.requires.above_in (c.args.i + 1) (omega (arith, c.requires.place.1)) in
    let g = c.args.form.greatest_in.1 in let e = sum_is north north_east c.sum_of-north.ensures in
    within _ fits (omega (arith, ints, e, a.0, n.0)) (omega (arith, ints, e, a.1, n.1, g))

pub returns-then-form-clause-value : goal.returns-then-form-clause-value
returns-then-form-clause-value c =
    let fits : SFits w16 c.sum_of.result = search rules in let twice : SFits w16 c.sum_of-twice.result = search rules in
    let north : SFits w16 (lane c.args.above.now c.args.i) = search rules in
    let e = sum_is twice twice c.sum_of.ensures in let d = sum_is north north c.sum_of-twice.ensures in
    rw (to_z-of_z fits, c.if-form.true) (omega (arith, ints, e, d))

pub returns-then-form-clause-range : goal.returns-then-form-clause-range
returns-then-form-clause-range c =
    let fits : SFits w16 c.sum_of.result = search rules in let twice : SFits w16 c.sum_of-twice.result = search rules in
    let north : SFits w16 (lane c.args.above.now c.args.i) = search rules in
    let a = c.requires.above_in c.args.i (omega (arith, c.requires.place.1)) in let g = c.args.form.greatest_in.1 in
    let e = sum_is twice twice c.sum_of.ensures in let d = sum_is north north c.sum_of-twice.ensures in
    within _ fits (omega (arith, ints, e, d, a.0)) (omega (arith, ints, e, d, a.1, g))

pub returns-else-form-clause-value : goal.returns-else-form-clause-value
returns-else-form-clause-value c =
    let fits : SFits w16 c.sum_of-else-form.result = search rules in
    let first : SFits w16 c.sum_of-west.result = search rules in let second : SFits w16 c.sum_of-north.result = search rules in
    let west : SFits w16 (lane c.args.numbers.now (c.args.i - 1)) = search rules in
    let north_west : SFits w16 (lane c.args.above.now (c.args.i - 1)) = search rules in
    let north : SFits w16 (lane c.args.above.now c.args.i) = search rules in
    let north_east : SFits w16 (lane c.args.above.now (c.args.i + 1)) = search rules in
    let e = sum_is first second c.sum_of-else-form.ensures in let d = sum_is west north_west c.sum_of-west.ensures in
    let f = sum_is north north_east c.sum_of-north.ensures in rw (to_z-of_z fits, c.if-form.false) (omega (arith, ints, e, d, f))

pub returns-else-form-clause-range : goal.returns-else-form-clause-range
returns-else-form-clause-range c =
    let fits : SFits w16 c.sum_of-else-form.result = search rules in
    let first : SFits w16 c.sum_of-west.result = search rules in let second : SFits w16 c.sum_of-north.result = search rules in
    let west : SFits w16 (lane c.args.numbers.now (c.args.i - 1)) = search rules in
    let north_west : SFits w16 (lane c.args.above.now (c.args.i - 1)) = search rules in
    let north : SFits w16 (lane c.args.above.now c.args.i) = search rules in
    let north_east : SFits w16 (lane c.args.above.now (c.args.i + 1)) = search rules in
    let place = c.requires.place.1 in let g = c.args.form.greatest_in.1 in
    let w = c.requires.numbers_in (c.args.i - 1) (omega (arith, place)) in let nw = c.requires.above_in (c.args.i - 1) (omega (arith, place)) in
    let n = c.requires.above_in c.args.i (omega (arith, place)) in let ne = c.requires.above_in (c.args.i + 1) (omega (arith, place)) in
    let e = sum_is first second c.sum_of-else-form.ensures in let d = sum_is west north_west c.sum_of-west.ensures in
    let f = sum_is north north_east c.sum_of-north.ensures in
    within _ fits (omega (arith, ints, e, d, f, w.0, nw.0, n.0, ne.0)) (omega (arith, ints, e, d, f, w.1, nw.1, n.1, ne.1, g))
