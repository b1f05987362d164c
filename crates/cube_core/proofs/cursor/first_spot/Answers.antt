use Rattle.cube_core.proofs.Walks.{first_index}
use Rattle.cube_core.proofs.cursor.first_spot.Goals as goal

pub returns-in-Bsq-clause-first : goal.returns-in-Bsq-clause-first
returns-in-Bsq-clause-first c = first_index c.args.shape c.args.order

pub returns-in-Bi-clause-first : goal.returns-in-Bi-clause-first
returns-in-Bi-clause-first c = first_index c.args.shape c.args.order
