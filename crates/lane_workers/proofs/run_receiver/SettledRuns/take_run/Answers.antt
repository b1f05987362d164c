use Rattle.std.proofs.Common.{rules, ◌++◌, take, ap, ◌∙◌}
use Rattle.std.proofs.lemmas.List.{append_assoc}
use Rattle.lane_workers.specs.Runs.{before}
use Rattle.lane_workers.proofs.Runs.{before_run}
use Rattle.lane_workers.proofs.run_receiver.SettledRuns.take_run.Goals as goal

pub returns-then-count-gt0-clause-lane : goal.returns-then-count-gt0-clause-lane
returns-then-count-gt0-clause-lane c =
    let all = c.self.inside.lane.received in
    let later = c.next_run-count.new.self in
    let both = before_run all (before all c.self.inside.room) _
    (take c.next_run-count.result c.next_run-count.new.run) later c.self.invariant.1 c.next_run-count.ensures.handed in
    c.self.invariant.0 ∙ ap (λ ns. ns ++ c.self.inside.lane.rest) both.1 ∙ append_assoc (before all later) later c.self.inside.lane.rest

pub returns-clause-none : goal.returns-clause-none
returns-clause-none c = search rules
