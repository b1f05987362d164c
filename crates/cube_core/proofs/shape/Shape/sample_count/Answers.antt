use Rattle.std.proofs.Common.{refl}
use Rattle.cube_core.proofs.shape.Shape.sample_count.Goals as goal

pub returns-clause-value : goal.returns-clause-value
returns-clause-value c = rw (c.from.ensures, c.from-2.ensures, c.from-3.ensures, ← c.self.view_is) refl
