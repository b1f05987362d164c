use Rattle.std.proofs.Common.{rules}
use Rattle.band_rings.proofs.lane.lane.Goals as goal

pub returns-in_err-producer : goal.returns-in_err-producer
returns-in_err-producer c = search rules

pub returns : goal.returns
returns c = search rules
