use Rattle.std.proofs.Common.{length, ap, arith}
use Rattle.sample_adaptive.proofs.BandNumbers.{states_count, state_is}
use Rattle.sample_adaptive.proofs.band_states.BandStates.get.Goals as goal

pub index-requires : goal.index-requires
index-requires c =
    let numbers = c.self.inside in
    omega (arith, c.requires, ap length c.self.view_is, states_count numbers.counters.items numbers.accumulators.items numbers.parameters.items, numbers.counters.ok.0)

pub index-requires-2 : goal.index-requires-2
index-requires-2 c =
    let numbers = c.self.inside in
    omega (arith, c.requires, ap length c.self.view_is, states_count numbers.counters.items numbers.accumulators.items numbers.parameters.items, c.self.invariant, numbers.accumulators.ok.0)

pub index-requires-3 : goal.index-requires-3
index-requires-3 c =
    let numbers = c.self.inside in
    omega (arith, c.requires, ap length c.self.view_is, states_count numbers.counters.items numbers.accumulators.items numbers.parameters.items, c.self.invariant, numbers.parameters.ok.0)

pub returns : goal.returns
returns c =
    let numbers = c.self.inside in
    state_is numbers.counters.items numbers.accumulators.items numbers.parameters.items _ c.args.z c.self.view_is
    (omega (arith, c.requires, ap length c.self.view_is, states_count numbers.counters.items numbers.accumulators.items numbers.parameters.items))
    c.index.result.now c.index-2.result.now c.index-3.result.now c.self.invariant.0 c.self.invariant.1 c.index.ensures c.index-2.ensures c.index-3.ensures
