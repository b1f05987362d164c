use Rattle.std.proofs.Common.{length, ap, sym, ◌∙◌}
use Rattle.sample_adaptive.proofs.BandNumbers.{states_count}
use Rattle.sample_adaptive.proofs.band_states.BandStates.len.Goals as goal

pub returns : goal.returns
returns c =
    let numbers = c.self.inside in
    c.len.ensures ∙ numbers.counters.ok.0 ∙ sym (states_count numbers.counters.items numbers.accumulators.items numbers.parameters.items) ∙ ap length c.self.view_is
