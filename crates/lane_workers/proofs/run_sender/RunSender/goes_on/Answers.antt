use Rattle.std.proofs.Common.{sym, ap, ◌∙◌}
use Rattle.std.proofs.lemmas.Bool.{not-true}
use Rattle.lane_workers.proofs.run_sender.RunSender.goes_on.Goals as goal

pub returns-clause-open : goal.returns-clause-open
returns-clause-open g c on = ap (λ s. s.stopped) (sym c.self.view_is) ∙ not-true c.self.inside.stopped on
