use Rattle.std.proofs.Common.{ap, ◌∙◌}
use Rattle.lane_workers.specs.Runs.{before}
use Rattle.lane_workers.proofs.run_receiver.RunReceiver.settle.Goals as goal

pub returns-clause-kept : goal.returns-clause-kept
returns-clause-kept c =
    (c.settle.ensures.kept.0, ap (λ ns. before ns c.self.inside.room) c.settle.ensures.kept.1 ∙ ap (λ r. r.received) c.self.view_is)
