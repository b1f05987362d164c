use Rattle.sample_adaptive.specs.Thresholds.{HasFirst}
use Rattle.sample_adaptive.proofs.thresholds.fill_row.Given as goal

abbrev pub invariant-loop-counter : goal.invariant-loop-counter
invariant-loop-counter l = HasFirst l.bits l.size l.j l.counter l.table
