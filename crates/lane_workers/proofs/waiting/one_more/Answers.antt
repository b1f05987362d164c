use Rattle.lane_workers.proofs.waiting.one_more.Goals as goal

pub returns : goal.returns
returns c = c.saturating_add.ensures
