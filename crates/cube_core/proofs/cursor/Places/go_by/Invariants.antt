use Rattle.std.specs.Prelude.{◌≡◌, ◌≤◌, drop}
use Rattle.cube_core.specs.Cursor.{IsWalk, places_left}
use Rattle.cube_core.proofs.cursor.Places.go_by.Given as goal

-- what remains to be skipped is left, and after it comes what did at first
abbrev pub invariant-loop-rest : goal.invariant-loop-rest
invariant-loop-rest l =
    let walk = l.self-inside in
    IsWalk walk.shape walk.order walk.spot walk.left × (l.rest ≤ walk.left)
    × (drop l.rest (places_left walk.shape walk.order walk.left) ≡ drop l.fn.count l.fn.self)

abbrev pub decreases-loop-rest : goal.decreases-loop-rest
decreases-loop-rest l = l.rest
