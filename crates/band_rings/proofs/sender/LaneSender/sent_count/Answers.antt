use Rattle.band_rings.proofs.sender.LaneSender.sent_count.Goals as goal

pub returns : goal.returns
returns c = cc
