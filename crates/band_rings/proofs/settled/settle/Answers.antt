use Rattle.std.proofs.Common.{rules}
use Rattle.band_rings.proofs.settled.settle.Goals as goal

pub returns : goal.returns
returns c = search rules

pub invariant_of-result-2 : goal.invariant_of-result-2
invariant_of-result-2 c = search rules
