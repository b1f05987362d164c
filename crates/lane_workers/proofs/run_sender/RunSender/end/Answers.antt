use Rattle.std.proofs.Common.{◌∙◌, not, sym, ap, arith}
use Rattle.std.proofs.lemmas.Bool.{true≢false}
use Rattle.std.proofs.lemmas.Grind.{common_steps}
use Rattle.lane_workers.proofs.run_sender.RunSender.end.Goals as goal
use Rattle.lane_workers.proofs.run_sender.RunSender.end.Goals.{then-not-stopped, else-not-stopped}

pub returns-clause-keeps : goal.returns-clause-keeps
returns-clause-keeps g c = grind (arith, common_steps)

pub returns-clause-stopped : goal.returns-clause-stopped
returns-clause-stopped g c stopped =
    let held = ap (λ s. s.stopped) c.self.view_is ∙ stopped in
    elim c.if-not-stopped.branch [
      | then-not-stopped w ↦ absurd (true≢false (sym held ∙ w.if-not-stopped.true))
      | else-not-stopped w ↦ w.whole-is ∙ ap not held
    ]
