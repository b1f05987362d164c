use Rattle.std.proofs.Common.{◌+◌, length, ap, ◌∙◌, arith}
use Rattle.sample_adaptive.proofs.BandNumbers.{states_count, counter_at, accumulator_at}
use Rattle.sample_adaptive.proofs.band_states.BandStates.gathered.Goals as goal

pub eight_of-requires : goal.eight_of-requires
eight_of-requires c =
    let numbers = c.self.inside in
    omega (arith, c.requires, ap length c.self.view_is, states_count numbers.counters.items numbers.accumulators.items numbers.parameters.items, ap length c.deref.ensures.value)

pub eight_of-requires-2 : goal.eight_of-requires-2
eight_of-requires-2 c =
    let numbers = c.self.inside in
    omega (
      arith,
      c.requires,
      ap length c.self.view_is,
      states_count numbers.counters.items numbers.accumulators.items numbers.parameters.items,
      c.self.invariant,
      ap length c.deref-2.ensures.value,
    )

pub returns-clause-counters : goal.returns-clause-counters
returns-clause-counters c j lt =
    let numbers = c.self.inside in
    rw c.deref.ensures.value at (c.eight_of.ensures j lt)
    ∙ counter_at numbers.counters.items numbers.accumulators.items numbers.parameters.items _ (c.args.at + j) c.self.view_is
    (omega (arith, lt, c.requires, ap length c.self.view_is, states_count numbers.counters.items numbers.accumulators.items numbers.parameters.items))

pub returns-clause-accumulators : goal.returns-clause-accumulators
returns-clause-accumulators c j lt =
    let numbers = c.self.inside in
    rw c.deref-2.ensures.value at (c.eight_of-2.ensures j lt)
    ∙ accumulator_at numbers.counters.items numbers.accumulators.items numbers.parameters.items _ (c.args.at + j) c.self.view_is
    (omega (arith, lt, c.requires, ap length c.self.view_is, states_count numbers.counters.items numbers.accumulators.items numbers.parameters.items))
