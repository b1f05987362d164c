use Rattle.band_rings.proofs.closed.ClosedLane.sent_count.Goals as goal

pub returns : goal.returns
returns c = cc
