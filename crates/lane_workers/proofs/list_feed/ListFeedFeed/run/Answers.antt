use Rattle.std.proofs.Common.{rules}
use Rattle.lane_workers.proofs.list_feed.ListFeedFeed.run.Goals as goal

pub returns : goal.returns
returns g c = search rules
