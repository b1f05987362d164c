use Rattle.std.proofs.Common.{ℕ, ◌≡◌, ◌+◌, ◌-◌, ◌/◌, ◌^◌, eqb, refl, sym, ap, ap₂, ◌∙◌, arith}
use mir.Val.{bool_byte}
use Rattle.lanes.specs.Lanes.{number}
use Rattle.lanes.proofs.Plain.{splat}
use Rattle.sample_adaptive.specs.declared.statistics.Statistics.{Statistics}
use Rattle.sample_adaptive.specs.BandStates.{state_of}
use Rattle.sample_adaptive.specs.Statistics.{code_parameter}
use Rattle.sample_adaptive.proofs.Counting.{accumulator_range}
use Rattle.sample_adaptive.proofs.EightColumn.{words_read}
use Rattle.sample_adaptive.proofs.LaneStates.{next_lane}
use Rattle.sample_adaptive.proofs.eight_column.read_bands.Goals as goal

pub parameters-k-requires-clause-accumulators : goal.parameters-k-requires-clause-accumulators
parameters-k-requires-clause-accumulators c j lt =
    let own = (c.requires.state (c.args.at + j) (omega (arith, c.requires.bands, lt))).statistics in
    omega (arith, c.gathered-before.ensures.accumulators j lt, accumulator_range _ _ c.args.settings.rescaling.size_in.1 own)

pub summed-after-requires-clause-accumulators : goal.summed-after-requires-clause-accumulators
summed-after-requires-clause-accumulators c j lt =
    let own = (c.requires.state (c.args.at + j) (omega (arith, c.requires.bands, lt))).statistics in
    omega (arith, c.gathered-before.ensures.accumulators j lt, accumulator_range _ _ c.args.settings.rescaling.size_in.1 own)

pub returns-clause-statistics : goal.returns-clause-statistics
returns-clause-statistics c j lt =
    let s : Statistics = (state_of c.args.bands.now (c.args.at + j)).statistics in
    let x : ℕ = number c.in_ok-numbers.numbers j in
    let h : ℕ = c.from-halving.result in
    let size : ℕ = c.args.settings.rescaling.size in
    let range = (c.requires.state (c.args.at + j) (omega (arith, c.requires.bands, lt))).statistics in
    let alike = c.are_all.ensures c.if-not-are_all.false j lt in
    let counter : c.args.counter ≡ s.counter = sym alike ∙ c.gathered-before.ensures.counters j lt in
    let halving : h ≡ bool_byte (eqb s.counter (2 ^ size - 1)) = c.from-halving.ensures ∙ ap₂ (λ (p q : ℕ). bool_byte (eqb p q)) counter c.args.settings.rescaling.greatest_is in
    let sum : number c.summed-after.result j ≡ (s.accumulator + x + h) / 2 ^ h =
    c.summed-after.ensures j lt ∙ ap (λ (p : ℕ). (p + x + h) / 2 ^ h) (c.gathered-before.ensures.accumulators j lt) in
    ap₂ (λ (p q : ℕ). record { counter = p; accumulator = q }) (ap (λ (p : ℕ). (p + 1) / 2 ^ h) counter) sum ∙ next_lane size s x h range halving

pub returns-clause-words : goal.returns-clause-words
returns-clause-words c =
    let bits : ℕ = c.args.settings.bits in
    words_read c.args.settings c.args.bands.now c.args.at c.parameters-k.result c.sum.result c.in_ok-numbers.numbers c.take_apart.new.parts 8 c.args.reader.now.left
    c.take_apart.new.reader.left
    (λ j lt. rw (splat 8 j 64 lt) at (c.sum.ensures j lt (omega (arith, splat 8 j 64 lt, c.parameters-k.ensures.most j lt, c.args.settings.bits_in))))
    (λ j lt. c.parameters-k.ensures.value j lt ∙ ap₂ (λ (p q : ℕ). code_parameter bits (record { counter = p; accumulator = q }))
    (sym (c.are_all.ensures c.if-not-are_all.false j lt) ∙ c.gathered-before.ensures.counters j lt) (c.gathered-before.ensures.accumulators j lt))
    c.parameters-k.ensures.most
    c.in_ok-numbers.ensures.lawful c.in_ok-numbers.ensures.numbers (c.if-not-take_apart.ensures.words refl)
