use Rattle.coder_pipe.proofs.Standings.{same_feeds, same_gates}
use Rattle.coder_pipe.proofs.run.skip_one.Goals as goal

pub returns-clause-feeds : goal.returns-clause-feeds
returns-clause-feeds g c = same_feeds _ c.args.q c.skip.new.self _ c.index_mut-stage.ensures.value c.skip.ensures.0

pub returns-clause-gates : goal.returns-clause-gates
returns-clause-gates g c = same_gates _ c.args.q c.skip.new.self _ c.index_mut-stage.ensures.value c.skip.ensures.1
