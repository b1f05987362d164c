use Rattle.std.proofs.Common.{◌<◌, ◌-◌, ◌+◌, arith, ap, drop, ◌∙◌, ◌≡◌}
use Rattle.cube_core.proofs.Walks.{at_most_left, walk_on, rest_after}
use Rattle.cube_core.proofs.cursor.Places.go_by.Goals as goal

pub loop-rest-init : goal.loop-rest-init
loop-rest-init c =
    let walk = c.self.inside in (
      c.self.invariant,
      omega arith,
      rw c.min-rest.ensures (at_most_left walk.shape walk.order walk.left _ c.self.invariant.lawful c.self.invariant.few
          ∙ ap (drop c.args.count) c.self.view_is),
    )

pub loop-rest-preserved-then-self-gt0 : goal.loop-rest-preserved-then-self-gt0
loop-rest-preserved-then-self-gt0 c =
    let walk = c.loop-rest.self-inside in
    let on = c.spot_ahead-on.result.1 in
    let kept = c.loop-rest.invariant in (
      walk_on walk.shape walk.order walk.spot _ _ walk.left on kept.0 (omega (arith, kept.1)) (c.spot_ahead-on.ensures.spot, c.spot_ahead-on.ensures.index)
          (λ some. (c.spot_after-self-inside.ensures.spot, c.spot_after-self-inside.ensures.next)),
      omega (arith, kept.1),
      rest_after walk.shape walk.order walk.left _ (on + 1) kept.0.few kept.1 (omega arith) ∙ kept.2,
    )

pub loop-rest-preserved : goal.loop-rest-preserved
loop-rest-preserved c =
    let walk = c.loop-rest.self-inside in
    let on = c.spot_ahead-on.result.1 in
    let kept = c.loop-rest.invariant in
    let none : 0 < walk.left - (on + 1) → ⊥ = λ some. omega (arith, some, c.if-self-gt0.false) in (
      walk_on walk.shape walk.order walk.spot _ walk.spot walk.left on kept.0
          (omega (arith, kept.1)) (c.spot_ahead-on.ensures.spot, c.spot_ahead-on.ensures.index) (λ some. elim (none some) [ ]),
      omega (arith, kept.1),
      rest_after walk.shape walk.order walk.left _ (on + 1) kept.0.few kept.1 (omega arith) ∙ kept.2,
    )

pub returns : goal.returns
returns c = let none : c.loop-rest.rest ≡ 0 = omega (arith, c.loop-rest-test.false) in rw none at c.loop-rest.invariant.2
