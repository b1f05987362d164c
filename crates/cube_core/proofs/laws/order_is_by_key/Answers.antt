use Rattle.cube_core.proofs.Keys.{order_is_by_key}
use Rattle.cube_core.proofs.laws.order_is_by_key.Goals as goal

pub returns : goal.returns
returns c = order_is_by_key
