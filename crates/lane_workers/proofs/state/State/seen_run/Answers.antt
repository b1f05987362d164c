use Rattle.lane_workers.proofs.state.State.seen_run.Goals as goal

pub returns-in-Running-clause-handed : goal.returns-in-Running-clause-handed
returns-in-Running-clause-handed g c = rw c.in-Running.is c.next_run.ensures.received

pub returns-in-Joined-clause-handed : goal.returns-in-Joined-clause-handed
returns-in-Joined-clause-handed g c = rw c.in-Joined.is c.take_run.ensures.received
