use Rattle.std.proofs.Common.{◌≡◌, map}
use Rattle.cube_core.specs.Order.{upto}
use Rattle.coder_pipe.specs.Sends.{CubeFeedState}
use Rattle.coder_pipe.proofs.cube_feed.cube_feeds.Given as goal

abbrev pub invariant-loop-predictor : goal.invariant-loop-predictor
invariant-loop-predictor l = l.feeds.items ≡ map (λ q. let f : CubeFeedState = record { cube = l.cube; plan = l.plan; predictor = q } in f) (upto l.predictor)
