use Rattle.std.proofs.Common.{◌∙◌, arith}
use Rattle.sample_adaptive.proofs.BandNumbers.{states_count}
use Rattle.sample_adaptive.proofs.band_states.BandStates.new.Goals as goal

pub returns-clause-count : goal.returns-clause-count
returns-clause-count c = omega (arith, states_count c.in_ok-vec.field-0.items c.in_ok-vec-2.field-0.items c.in_ok-vec-3.field-0.items, c.in_ok-vec.field-0.ok.0, c.in_ok-vec.ensures.len)
