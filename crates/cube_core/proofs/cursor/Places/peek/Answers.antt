use Rattle.std.proofs.Common.{◌<◌, arith, refl}
use Rattle.cube_core.proofs.Walks.{none_left, next_left}
use Rattle.cube_core.proofs.cursor.Places.peek.Goals as goal

pub returns-then-self-eq0 : goal.returns-then-self-eq0
returns-then-self-eq0 c = rw (← c.self.view_is, c.if-self-eq0.true, none_left c.self.inside.shape c.self.inside.order c.self.invariant.lawful) refl

pub returns-else-self-eq0 : goal.returns-else-self-eq0
returns-else-self-eq0 c =
    let more : 0 < c.self.inside.left = omega arith in
    rw (← c.self.view_is, next_left c.self.inside.shape c.self.inside.order c.self.inside.spot c.self.inside.left c.self.invariant more) refl
