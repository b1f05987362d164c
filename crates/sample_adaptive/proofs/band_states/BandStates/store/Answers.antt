use Rattle.std.proofs.Common.{ℕ, List, ◌≡◌, ◌+◌, length, refl, ap, ◌∙◌, arith}
use Rattle.std.specs.Prelude.{replicate}
use Rattle.std.proofs.lemmas.List.{take_at}
use Rattle.lanes.proofs.Plain.{splat}
use Rattle.sample_adaptive.specs.ColumnLanes.{with_numbers}
use Rattle.sample_adaptive.proofs.BandNumbers.{states_count, states_with, numbers_count}
use Rattle.sample_adaptive.proofs.band_states.BandStates.store.Goals as goal

pub put_eight_of-requires : goal.put_eight_of-requires
put_eight_of-requires c =
    let numbers = c.self.inside in
    omega (arith, c.requires, ap length c.self.view_is, states_count numbers.counters.items numbers.accumulators.items numbers.parameters.items, ap length c.deref_mut.ensures.value)

pub put_eight_of-requires-2 : goal.put_eight_of-requires-2
put_eight_of-requires-2 c =
    let numbers = c.self.inside in
    omega (
      arith,
      c.requires,
      ap length c.self.view_is,
      states_count numbers.counters.items numbers.accumulators.items numbers.parameters.items,
      c.self.invariant,
      ap length c.deref_mut-2.ensures.value,
    )

pub returns : goal.returns
returns c =
    let numbers = c.self.inside in
    let counters = numbers.counters.items in
    let accumulators = numbers.accumulators.items in
    let same : List ℕ = replicate 8 c.args.counter in
    let lanes : List ℕ = c.args.accumulators.now in
    let many = states_count counters accumulators numbers.parameters.items in
    let one : c.put_eight_of.new.numbers ≡ with_numbers counters c.args.at same 8 =
    c.put_eight_of.ensures ∙ ap (λ (xs : List ℕ). with_numbers xs c.args.at same 8) c.deref_mut.ensures.value in
    let two : c.put_eight_of-2.new.numbers ≡ with_numbers accumulators c.args.at lanes 8 =
    c.put_eight_of-2.ensures ∙ ap (λ (xs : List ℕ). with_numbers xs c.args.at lanes 8) c.deref_mut-2.ensures.value in
    rw (
      take_at c.put_eight_of.new.numbers _ numbers.counters.len (omega (arith, ap length one, numbers_count counters c.args.at same 8, numbers.counters.ok.0)),
      take_at c.put_eight_of-2.new.numbers _ numbers.accumulators.len (omega (arith, ap length two, numbers_count accumulators c.args.at lanes 8, numbers.accumulators.ok.0)),
      one,
      two,
      states_with counters accumulators numbers.parameters.items c.args.at c.args.counter same lanes 8 (λ j lt. splat 8 j c.args.counter lt)
          (omega (arith, c.requires, ap length c.self.view_is, many)) c.self.invariant.0 c.self.invariant.1,
      c.self.view_is,
    ) refl
