use Rattle.band_rings.proofs.sender.LaneSender.close.Goals as goal

pub new-requires : goal.new-requires
new-requires c = c.self.invariant.0
