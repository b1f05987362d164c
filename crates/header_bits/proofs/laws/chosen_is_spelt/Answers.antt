use Rattle.header_bits.proofs.Chosen.{chosen_is_spelt}
use Rattle.header_bits.proofs.laws.chosen_is_spelt.Goals as goal

pub returns : goal.returns
returns c = chosen_is_spelt
