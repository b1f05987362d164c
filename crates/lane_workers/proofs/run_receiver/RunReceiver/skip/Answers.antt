use Rattle.std.proofs.Common.{◌++◌, sym, ap, ◌∙◌}
use Rattle.std.proofs.lemmas.List.{append_assoc}
use Rattle.lane_workers.specs.Runs.{before}
use Rattle.lane_workers.proofs.Runs.{before_append}
use Rattle.lane_workers.proofs.run_receiver.RunReceiver.skip.Goals as goal

pub returns-clause-skipped : goal.returns-clause-skipped
returns-clause-skipped c =
    let room = c.self.inside.room in
    let filled = c.fill.new.self in
    let seen = c.fill.ensures.seen in
    let received =
    ap (λ ns. before ns filled) c.fill.ensures.received ∙ before_append c.self.inside.receiver.received filled ∙ c.self.invariant
    ∙ ap (λ s. s.received ++ room) c.self.view_is in
    let known =
    ap (λ s. s.known ++ seen.0) (sym c.self.view_is) ∙ append_assoc room c.self.inside.receiver.known seen.0 ∙ ap (λ ns. room ++ ns) seen.1 in
    (room, c.fill.ensures.few, received, (seen.0, known))
