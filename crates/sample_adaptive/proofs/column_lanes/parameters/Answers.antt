use Rattle.std.proofs.Common.{ℕ, ◌≡◌, ◌+◌, ◌*◌, ◌/◌, ap, ◌∙◌, arith}
use Rattle.lanes.specs.Lanes.{number}
use Rattle.lanes.proofs.Plain.{splat}
use Rattle.sample_adaptive.proofs.ColumnLanes.{parameter_lane}
use Rattle.sample_adaptive.proofs.column_lanes.parameters.Goals as goal

pub returns-clause-value : goal.returns-clause-value
returns-clause-value c j lt =
    let bias : ℕ = 49 * c.args.counter / 128 in
    let added = splat 8 j bias lt in
    let level : number c.sum-levels.result j ≡ number c.args.accumulators j + bias =
    c.sum-levels.ensures j lt (omega (arith, added, c.requires.accumulators j lt, c.requires.counter)) ∙ ap (λ n. number c.args.accumulators j + n) added in
    (parameter_lane c.args.bits c.args.counter (number c.args.accumulators j) (number c.sum-levels.result j) (number c.within.result j) (number c.logarithms.result j)
    c.requires.bits.0 c.requires.bits.1 c.requires.counter.0 c.requires.counter.1 level (c.within.ensures j lt) (c.logarithms.ensures.fits j lt) (c.logarithms.ensures.passes j lt)).value

pub returns-clause-most : goal.returns-clause-most
returns-clause-most c j lt =
    let bias : ℕ = 49 * c.args.counter / 128 in
    let added = splat 8 j bias lt in
    let level : number c.sum-levels.result j ≡ number c.args.accumulators j + bias =
    c.sum-levels.ensures j lt (omega (arith, added, c.requires.accumulators j lt, c.requires.counter)) ∙ ap (λ n. number c.args.accumulators j + n) added in
    (parameter_lane c.args.bits c.args.counter (number c.args.accumulators j) (number c.sum-levels.result j) (number c.within.result j) (number c.logarithms.result j)
    c.requires.bits.0 c.requires.bits.1 c.requires.counter.0 c.requires.counter.1 level (c.within.ensures j lt) (c.logarithms.ensures.fits j lt) (c.logarithms.ensures.passes j lt)).most
