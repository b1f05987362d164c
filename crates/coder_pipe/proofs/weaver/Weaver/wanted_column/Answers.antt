use Rattle.std.proofs.Common.{◌≡◌, ◌+◌, ◌-◌, ◌≤◌, length, arith, rules, sym}
use Rattle.coder_pipe.proofs.WeaverState.{column_fits, column_owned}
use Rattle.coder_pipe.proofs.weaver.Weaver.wanted_column.Goals as goal
use Rattle.coder_pipe.proofs.weaver.Weaver.wanted_column.Goals.{After-deref-2}

module _ (c : After-deref-2) where
  fits : c.in-Some.place.z + c.min-count.result ≤ length c.self.inside.deal.items
  fits =
      column_fits _ c.self.inside.order _ _ c.min-count.result c.self.invariant c.in-Some.ensures
      (λ i lt. c.column.ensures.along i c.in-Some.place (omega (arith, lt, c.min-count.ensures)) (sym c.in-Some.ensures))

pub overflow_add-result : goal.overflow_add-result
overflow_add-result c = omega (arith, fits (goal.at.overflow_add-result c).After-deref-2, c.self.inside.deal.ok.0)

pub slice_bounds-result-end-2 : goal.slice_bounds-result-end-2
slice_bounds-result-end-2 c =
    let few = fits (goal.at.slice_bounds-result-end-2 c).After-deref-2 in
    let h : c.in-Some.place.z + c.min-count.result ≤ length c.deref-2.result.now = rw c.deref-2.ensures.value few in search rules

pub returns-clause-owned : goal.returns-clause-owned
returns-clause-owned c = λ p deal numbers h.
    let few = fits (goal.at.returns-clause-owned c).After-deref-2 in
    let count : c.in-Some.place.z + c.min-count.result - c.in-Some.place.z ≡ c.min-count.result = omega arith in
    rw (count, c.deref-2.ensures.value)
    (column_owned _ c.in-Some.place c.min-count.result
    (λ i lt. c.column.ensures.along i c.in-Some.place (omega (arith, lt, c.min-count.ensures)) (sym c.in-Some.ensures)) few p deal numbers
    (rw (← c.self.view_is) at h))

pub returns-clause-some : goal.returns-clause-some
returns-clause-some c = λ more.
    let few = fits (goal.at.returns-clause-some c).After-deref-2 in
    let one = c.column.ensures.some c.in-Some.place (sym c.in-Some.ensures) in
    omega (arith, few, one, c.min-count.ensures, c.requires)
