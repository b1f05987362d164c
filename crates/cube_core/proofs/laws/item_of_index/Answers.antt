use Rattle.cube_core.proofs.Keys.{item_of_index}
use Rattle.cube_core.proofs.laws.item_of_index.Goals as goal

pub returns : goal.returns
returns c = item_of_index
