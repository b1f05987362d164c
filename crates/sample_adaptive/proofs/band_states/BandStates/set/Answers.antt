use Rattle.std.proofs.Common.{List, set, length, ap, ◌∙◌, arith}
use Rattle.sample_adaptive.specs.declared.band_state.BandState.{BandState}
use Rattle.sample_adaptive.proofs.BandNumbers.{states_count, states_set}
use Rattle.sample_adaptive.proofs.band_states.BandStates.set.Goals as goal

pub index_mut-requires : goal.index_mut-requires
index_mut-requires c =
    let numbers = c.self.inside in
    omega (arith, c.requires, ap length c.self.view_is, states_count numbers.counters.items numbers.accumulators.items numbers.parameters.items, numbers.counters.ok.0)

pub index_mut-requires-2 : goal.index_mut-requires-2
index_mut-requires-2 c =
    let numbers = c.self.inside in
    omega (arith, c.requires, ap length c.self.view_is, states_count numbers.counters.items numbers.accumulators.items numbers.parameters.items, c.self.invariant, numbers.accumulators.ok.0)

pub index_mut-requires-3 : goal.index_mut-requires-3
index_mut-requires-3 c =
    let numbers = c.self.inside in
    omega (arith, c.requires, ap length c.self.view_is, states_count numbers.counters.items numbers.accumulators.items numbers.parameters.items, c.self.invariant, numbers.parameters.ok.0)

pub returns : goal.returns
returns c =
    let numbers = c.self.inside in
    let many = states_count numbers.counters.items numbers.accumulators.items numbers.parameters.items in
    states_set numbers.counters.items numbers.accumulators.items numbers.parameters.items c.args.z c.args.state.statistics.counter c.args.state.statistics.accumulator c.args.state.k
    (omega (arith, c.requires, ap length c.self.view_is, many, c.self.invariant)) (omega (arith, c.requires, ap length c.self.view_is, many, c.self.invariant))
    ∙ ap (λ (bands : List BandState). set bands c.args.z c.args.state) c.self.view_is
