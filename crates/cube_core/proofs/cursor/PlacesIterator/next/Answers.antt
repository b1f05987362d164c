use Rattle.std.proofs.Common.{arith, sym, ◌∙◌, rules}
use Rattle.cube_core.proofs.Walks.{none_left, next_left}
use Rattle.cube_core.proofs.cursor.PlacesIterator.next.Goals as goal

pub returns-then-self-eq0-clause-steps : goal.returns-then-self-eq0-clause-steps
returns-then-self-eq0-clause-steps c =
    let none = sym c.self.view_is ∙ rw c.if-self-eq0.true (none_left c.self.inside.shape c.self.inside.order c.self.invariant.lawful) in
    (none, none)

pub returns-then-self-gt0 : goal.returns-then-self-gt0
returns-then-self-gt0 c =
    let walk = c.self.inside in
    let next = sym c.self.view_is ∙ next_left walk.shape walk.order walk.spot walk.left c.self.invariant (omega arith) in
    record { steps = next; goes = rw next (search rules) }

pub returns-else-self-gt0 : goal.returns-else-self-gt0
returns-else-self-gt0 c =
    let walk = c.self.inside in
    let next = sym c.self.view_is ∙ next_left walk.shape walk.order walk.spot walk.left c.self.invariant (omega arith) in
    record { steps = next; goes = rw next (search rules) }
