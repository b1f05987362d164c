use Rattle.std.proofs.Common.{refl}
use Rattle.pipeline_tests.proofs.Zeros.{are_feeds}
use Rattle.pipeline_tests.proofs.tests.weaver.feeds.Goals as goal

pub returns : goal.returns
returns c = rw (c.in_ok-push-2.ensures.items, c.in_ok-push.ensures.items, c.new-feeds.ensures.items) (are_feeds _ _ c.args.plan.now _ _ c.requires.plan.0
    c.requires.plan.1 c.requires.image.0 c.requires.image.1 c.requires.image.2 refl refl c.requires.zeros c.requires.zeros)
