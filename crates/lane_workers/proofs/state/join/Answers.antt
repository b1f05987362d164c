use Rattle.std.proofs.Common.{refl}
use Rattle.lane_workers.proofs.state.join.Goals as goal

pub returns-clause-joined : goal.returns-clause-joined
returns-clause-joined g c = refl
