use Rattle.band_rings.proofs.Lanes.{each_lane_is_reached}
use Rattle.band_rings.proofs.laws.each_lane_is_reached.Goals as goal

pub returns : goal.returns
returns c = each_lane_is_reached
