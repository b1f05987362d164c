use Rattle.band_rings.proofs.Lanes.{received_is_prefix}
use Rattle.band_rings.proofs.laws.received_is_prefix.Goals as goal

pub returns : goal.returns
returns c = received_is_prefix
