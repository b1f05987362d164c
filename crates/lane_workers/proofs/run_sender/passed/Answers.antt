use Rattle.lane_workers.proofs.run_sender.passed.Goals as goal

pub returns-then-not-pass-clause-stopped : goal.returns-then-not-pass-clause-stopped
returns-then-not-pass-clause-stopped g c below = rw (← c.sent_count-sent.ensures) (c.pass.ensures c.if-not-pass.true)
