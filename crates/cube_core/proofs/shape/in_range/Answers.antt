use Rattle.std.proofs.Common.{rules}
use Rattle.cube_core.proofs.shape.in_range.Goals as goal

pub returns-then-contains : goal.returns-then-contains
returns-then-contains c = search rules

pub returns-else-contains : goal.returns-else-contains
returns-else-contains c = search rules
