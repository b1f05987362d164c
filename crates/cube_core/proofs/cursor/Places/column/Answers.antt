use Rattle.std.proofs.Common.{◌≡◌, ◌<◌, ◌-◌, List, [], None, sym, ap, ◌∙◌, arith}
use Rattle.std.specs.List.{slice_get}
use Rattle.cube_core.specs.declared.order.Place.{Place}
use Rattle.cube_core.proofs.Walks.{column_of, none_left}
use Rattle.cube_core.proofs.cursor.Places.column.Goals as goal

pub returns-then-self-eq0-clause-some : goal.returns-then-self-eq0-clause-some
returns-then-self-eq0-clause-some c p first =
    let empty : c.args.self.now ≡ [] = sym c.self.view_is ∙ rw c.if-self-eq0.true (none_left c.self.inside.shape c.self.inside.order c.self.invariant.lawful) in
    let none : slice_get c.args.self.now 0 ≡ None = ap (λ (ps : List Place). slice_get ps 0) empty in
    absurd (cc)

pub returns-in-Bi-clause-along : goal.returns-in-Bi-clause-along
returns-in-Bi-clause-along c i p lt first =
    let walk = c.self.inside in
    let more : 0 < walk.left = omega arith in
    let inside : i < walk.spot.end - walk.spot.place.z = omega (arith, lt, c.from.ensures) in
    column_of walk.shape walk.order c.in-Bi.field-0 walk.spot walk.left c.args.self.now i p c.in-Bi.is c.self.invariant more c.self.view_is inside first

pub returns-in-Bsq-clause-some : goal.returns-in-Bsq-clause-some
returns-in-Bsq-clause-some c = λ p first. omega arith
