-- What a worker may send.
use Rattle.std.specs.Prelude.{◌≡◌, ℕ, ◌<◌, Bool, List, length, take, IsTrue, IsFalse}
use Rattle.band_rings.specs.Lane.{LaneName}
use Rattle.lane_workers.specs.declared.feed.LaneEnd.{LaneEnd}

-- the end belongs to this lane, and sent a prefix of the list: the whole list if the end is whole, otherwise less, and the predictor may be stopped there
pub record Keeps (may_stop : ℕ → ℕ → Bool) (predictor : ℕ) (items : List ℕ) (lane : LaneName) (end : LaneEnd) : Type 0 where
  pub lane_is : end.closed.lane ≡ lane
  pub prefix : end.closed.sent ≡ take (length end.closed.sent) items
  pub whole : IsTrue end.whole → end.closed.sent ≡ items
  pub stopped : IsFalse end.whole → IsTrue (may_stop predictor (length end.closed.sent)) × (length end.closed.sent < length items)
