use Rattle.std.proofs.Common.{◌∙◌, rules, arith}
use Rattle.command_devices.proofs.Devices.{cut_gave}
use Rattle.command_devices.proofs.cut.CutSourceSource.read.Goals as goal

pub returns-then-eq-clause-cut : goal.returns-then-eq-clause-cut
returns-then-eq-clause-cut c = search rules

pub returns-clause-given : goal.returns-clause-given
returns-clause-given c =
    rw (← c.self.view_is) (cut_gave _ _ _ c.min-n.result _ (c.copy_from_slice.ensures.after ∙ c.split_at.ensures.front) c.split_at.ensures.back (omega arith))

pub returns-clause-not_cut : goal.returns-clause-not_cut
returns-clause-not_cut c = search rules
