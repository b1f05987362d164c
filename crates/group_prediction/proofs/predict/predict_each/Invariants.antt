use Rattle.group_prediction.proofs.GroupPieces.{HeldUpTo}
use Rattle.group_prediction.proofs.predict.predict_each.Given as goal

abbrev pub invariant-loop-k : goal.invariant-loop-k
invariant-loop-k l = HeldUpTo l.rows.image l.count l.k l.initial.bands l.bands
