use Rattle.lane_workers.proofs.stage.Stage.next_one.Goals as goal

pub returns-clause-none : goal.returns-clause-none
returns-clause-none g c = rw (← c.self.view_is) c.next_one.ensures.none
