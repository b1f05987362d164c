use Rattle.group_prediction.proofs.GroupPieces.{HeldUpTo}
use Rattle.group_prediction.proofs.side_by_side.finish_lanes.Given as goal

abbrev pub invariant-loop-k : goal.invariant-loop-k
invariant-loop-k g l = HeldUpTo l.run.image l.run.count l.k l.initial.bands l.bands
