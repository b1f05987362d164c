use Rattle.std.proofs.Common.{◌≡◌, [], ◌++◌, take, ap, arith, ◌∙◌}
use Rattle.std.proofs.lemmas.List.{append-nil}
use Rattle.lane_workers.specs.Runs.{before}
use Rattle.lane_workers.proofs.Runs.{before_run}
use Rattle.lane_workers.proofs.run_receiver.RunReceiver.next_run.Goals as goal

pub invariant_of-self-2 : goal.invariant_of-self-2
invariant_of-self-2 c =
    let front = before c.self.inside.receiver.received c.self.inside.room in
    let nothing : c.self.inside.room ≡ [] = c.next_run-count.ensures.none (omega (arith, c.if-count-gt0.false)) c.requires in
    let whole : c.self.inside.receiver.received ≡ front = c.self.invariant ∙ ap (λ ns. front ++ ns) nothing ∙ append-nil front in
    let all = c.fill.ensures.received ∙ ap (λ ns. ns ++ c.fill.new.self) whole in
    (before_run _ front _ (take c.next_run.result c.next_run.new.run) _ all c.next_run.ensures.handed).1
