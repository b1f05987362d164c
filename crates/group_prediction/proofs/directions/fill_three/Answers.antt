use Rattle.std.proofs.Common.{◌≡◌, slice_index, ◌∙◌, ap, refl, arith, ℕ, ℤ}
use Rattle.std.proofs.lemmas.List.{get_or-take}
use Rattle.group_prediction.specs.GroupLines.{IsToldDifference}
use Rattle.group_prediction.proofs.GroupLines.{taken_at}
use Rattle.group_prediction.proofs.directions.fill_three.Goals as goal

-- the same of another number and of the same offset
moved : (offset other : ℕ) (sum d e : ℤ) → offset ≡ other → e ≡ d → IsToldDifference offset sum d → IsToldDifference other sum e
moved offset other sum d e f g h = rw (g, ← f) h

pub returns-clause-north : goal.returns-clause-north
returns-clause-north c i l =
    moved _ _ _ _ _ (taken_at c.args.lines.now.above 1 i l ∙ ap (λ k. slice_index c.args.lines.now.above k) (omega arith))
    (c.fill_component-3.ensures.others 0 i (omega arith) ∙ c.fill_component-2.ensures.others 0 i (omega arith)) (c.fill_component.ensures.told i l)

pub returns-clause-west : goal.returns-clause-west
returns-clause-west c i l = moved _ _ _ _ _ (get_or-take 64 c.args.lines.now.current i 0 l) (c.fill_component-3.ensures.others 1 i (omega arith)) (c.fill_component-2.ensures.told i l)

pub returns-clause-north_west : goal.returns-clause-north_west
returns-clause-north_west c i l = moved _ _ _ _ _ (get_or-take 64 c.args.lines.now.above i 0 l) refl (c.fill_component-3.ensures.told i l)
