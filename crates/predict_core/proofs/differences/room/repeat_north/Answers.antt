use Rattle.std.proofs.Common.{rules}
use Rattle.predict_core.proofs.differences.room.repeat_north.Goals as goal

pub returns-clause-first : goal.returns-clause-first
returns-clause-first c = search rules
