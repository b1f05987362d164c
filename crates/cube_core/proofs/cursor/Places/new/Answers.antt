use Rattle.cube_core.proofs.Walks.{all_left}
use Rattle.cube_core.proofs.cursor.Places.new.Goals as goal

pub returns : goal.returns
returns c = rw c.sample_count.ensures.value (all_left c.args.shape c.args.order)
