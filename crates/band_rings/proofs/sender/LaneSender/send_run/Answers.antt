use Rattle.std.proofs.Common.{rules}
use Rattle.band_rings.proofs.sender.LaneSender.send_run.Goals as goal

pub returns : goal.returns
returns c = search rules
