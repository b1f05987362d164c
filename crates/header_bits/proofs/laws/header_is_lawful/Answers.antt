use Rattle.header_bits.proofs.SpeltLawful.{spelt_is_lawful}
use Rattle.header_bits.proofs.laws.header_is_lawful.Goals as goal

pub returns : goal.returns
returns c = spelt_is_lawful
