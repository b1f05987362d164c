use Rattle.band_rings.proofs.settled.SettledLane.sent_count.Goals as goal

pub returns : goal.returns
returns c = cc
