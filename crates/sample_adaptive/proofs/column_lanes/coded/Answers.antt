use Rattle.std.proofs.Common.{ℕ, ◌≡◌, ◌+◌, ◌-◌, ◌/◌, ◌^◌, get_or, eqb, sym, ap, ap₂, ◌∙◌, arith}
use mir.Val.{bool_byte}
use Rattle.lanes.specs.Lanes.{number}
use Rattle.sample_adaptive.specs.declared.statistics.Statistics.{Statistics}
use Rattle.sample_adaptive.specs.BandStates.{state_of}
use Rattle.sample_adaptive.specs.Statistics.{code_parameter}
use Rattle.sample_adaptive.specs.Words.{code_word}
use Rattle.sample_adaptive.proofs.Counting.{accumulator_range}
use Rattle.sample_adaptive.proofs.LaneStates.{next_lane}
use Rattle.sample_adaptive.proofs.column_lanes.coded.Goals as goal

pub parameters-k-requires-clause-accumulators : goal.parameters-k-requires-clause-accumulators
parameters-k-requires-clause-accumulators c j lt =
    let own = (c.requires.state (c.args.at + j) (omega (arith, c.requires.bands, lt))).statistics in
    omega (arith, c.gathered-before.ensures.accumulators j lt, accumulator_range _ _ c.args.settings.rescaling.size_in.1 own)

pub summed-after-requires-clause-accumulators : goal.summed-after-requires-clause-accumulators
summed-after-requires-clause-accumulators c j lt =
    let own = (c.requires.state (c.args.at + j) (omega (arith, c.requires.bands, lt))).statistics in
    omega (arith, c.gathered-before.ensures.accumulators j lt, accumulator_range _ _ c.args.settings.rescaling.size_in.1 own)

pub returns-clause-text : goal.returns-clause-text
returns-clause-text c alike short j lt =
    let s : Statistics = (state_of c.args.bands.now (c.args.at + j)).statistics in
    let same : record { counter = c.args.counter; accumulator = number c.gathered-before.result.accumulators j } ≡ s =
    ap₂ (λ (p q : ℕ). record { counter = p; accumulator = q }) (sym (c.are_all-alike.ensures alike j lt) ∙ c.gathered-before.ensures.counters j lt)
    (c.gathered-before.ensures.accumulators j lt) in
    let k : number c.parameters-k.result j ≡ code_parameter c.args.settings.bits s = c.parameters-k.ensures.value j lt ∙ ap (code_parameter c.args.settings.bits) same in
    c.short_words-words.ensures.text short j c.args.settings.bits lt
    ∙ ap₂ (λ (k x : ℕ). code_word (record { limit = c.args.settings.limit; k = k; bits = c.args.settings.bits }) x) k (c.taken-numbers.ensures j lt)

pub returns-clause-statistics : goal.returns-clause-statistics
returns-clause-statistics c alike j lt =
    let s : Statistics = (state_of c.args.bands.now (c.args.at + j)).statistics in
    let x : ℕ = get_or c.args.residuals.now (c.args.i + j) 0 in
    let h : ℕ = c.from-halving.result in
    let size : ℕ = c.args.settings.rescaling.size in
    let range = (c.requires.state (c.args.at + j) (omega (arith, c.requires.bands, lt))).statistics in
    let counter : c.args.counter ≡ s.counter = sym (c.are_all-alike.ensures alike j lt) ∙ c.gathered-before.ensures.counters j lt in
    let halving : h ≡ bool_byte (eqb s.counter (2 ^ size - 1)) = c.from-halving.ensures ∙ ap₂ (λ (p q : ℕ). bool_byte (eqb p q)) counter c.args.settings.rescaling.greatest_is in
    let sum : number c.summed-after.result j ≡ (s.accumulator + x + h) / 2 ^ h =
    c.summed-after.ensures j lt ∙ ap₂ (λ (p q : ℕ). (p + q + h) / 2 ^ h) (c.gathered-before.ensures.accumulators j lt) (c.taken-numbers.ensures j lt) in
    ap₂ (λ (p q : ℕ). record { counter = p; accumulator = q }) (ap (λ (p : ℕ). (p + 1) / 2 ^ h) counter) sum ∙ next_lane size s x h range halving

pub returns-clause-parameters : goal.returns-clause-parameters
returns-clause-parameters c alike j lt =
    c.parameters-k.ensures.value j lt ∙ ap₂ (λ (p q : ℕ). code_parameter c.args.settings.bits (record { counter = p; accumulator = q }))
    (sym (c.are_all-alike.ensures alike j lt) ∙ c.gathered-before.ensures.counters j lt) (c.gathered-before.ensures.accumulators j lt)
