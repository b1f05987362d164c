use Rattle.std.proofs.Common.{◌≡◌, refl, arith}
use Rattle.std.proofs.lemmas.List.{map-append}
use Rattle.file_encoding.proofs.Sending.{upto_split}
use Rattle.coder_pipe.proofs.cube_feed.cube_feeds.Goals as goal

pub invariant_of-push : goal.invariant_of-push
invariant_of-push c = (c.requires, c.in_ok-own_bands.ensures.fresh c.args.cube.now)

pub loop-predictor-preserved : goal.loop-predictor-preserved
loop-predictor-preserved c = rw (c.in_ok-push.ensures.items, upto_split, map-append, c.loop-predictor.invariant) refl

pub returns-clause-feeds : goal.returns-clause-feeds
returns-clause-feeds c =
    let all : c.loop-predictor.predictor ≡ c.args.plan.now.predictors = omega arith in
    rw all at c.loop-predictor.invariant
