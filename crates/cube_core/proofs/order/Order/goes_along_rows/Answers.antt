use Rattle.std.proofs.Common.{refl}
use Rattle.cube_core.proofs.order.Order.goes_along_rows.Goals as goal

pub returns-in-Bi : goal.returns-in-Bi
returns-in-Bi c = rw c.in-Bi.is refl
