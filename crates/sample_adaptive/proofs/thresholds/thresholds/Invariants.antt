use Rattle.sample_adaptive.specs.Thresholds.{HasFirst}
use Rattle.sample_adaptive.proofs.thresholds.thresholds.Given as goal

abbrev pub invariant-loop-j : goal.invariant-loop-j
invariant-loop-j l = HasFirst l.bits l.size l.j 0 l.table.items
