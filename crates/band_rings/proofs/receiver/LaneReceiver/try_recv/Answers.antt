use Rattle.std.proofs.Common.{rules}
use Rattle.band_rings.proofs.receiver.LaneReceiver.try_recv.Goals as goal

pub returns : goal.returns
returns c = search rules
