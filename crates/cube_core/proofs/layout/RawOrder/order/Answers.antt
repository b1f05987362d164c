use Rattle.std.proofs.Common.{refl}
use Rattle.cube_core.proofs.layout.RawOrder.order.Goals as goal

pub returns-in-Bil : goal.returns-in-Bil
returns-in-Bil c = rw c.in-Bil.is refl
