use Rattle.cube_core.proofs.Keys.{index_of_item}
use Rattle.cube_core.proofs.laws.index_of_item.Goals as goal

pub returns : goal.returns
returns c = index_of_item
