use Rattle.std.proofs.Common.{◌≡◌, ◌<◌, ℕ}
use Rattle.cube_core.proofs.Bounds.{index_below}
use Rattle.cube_core.proofs.shape.index_at.Goals as goal

same_below : (n m most : ℕ) → m < most → n ≡ m → n < most
same_below n m most lt e = rw e lt

pub returns-clause-value : goal.returns-clause-value
returns-clause-value c = cc

pub returns-clause-below : goal.returns-clause-below
returns-clause-below c = same_below _ _ _ (index_below _ _ _ c.args.z c.args.y c.args.x c.requires.band c.requires.row c.requires.column) cc
