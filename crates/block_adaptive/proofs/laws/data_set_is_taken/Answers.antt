use Rattle.block_adaptive.proofs.Taken.{data_set_is_taken}
use Rattle.block_adaptive.proofs.laws.data_set_is_taken.Goals as goal

pub returns : goal.returns
returns c = data_set_is_taken
