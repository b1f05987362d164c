use Rattle.std.proofs.Common.{◌≤◌, ◌+◌, ◌^◌, ◌∙◌, ap, arith, map, to_z, w32, pow_mono, rules}
use Rattle.lanes.specs.Lanes.{lane}
use Rattle.lanes.proofs.Ranges.{vector}
use Rattle.lanes.proofs.Steps.{kept}
use Rattle.band_lanes.proofs.follow.predicted_by.Goals as goal
use Rattle.band_lanes.proofs.follow.predicted_by.Goals.{then-this-ne0, else-this-ne0}

pub predicted_singly-requires-clause-small : goal.predicted_singly-requires-clause-small
predicted_singly-requires-clause-small g c a k l m =
    let bits : c.args.step.bits + 2 ≤ 15 = (let h = c.args.step.bits_in in omega (arith, h)) in
    let top : 2 ^ (c.args.step.bits + 2) ≤ 2 ^ 15 = pow_mono bits in let h = c.requires.below a k l m in omega (arith, h, top)

pub predicted-requires-clause-small : goal.predicted-requires-clause-small
predicted-requires-clause-small g c a k l m =
    let bits : c.args.step.bits + 2 ≤ 14 = (let h = c.requires.shallow (search rules) in omega (arith, h)) in
    let top : 2 ^ (c.args.step.bits + 2) ≤ 2 ^ 14 = pow_mono bits in let h = c.requires.below a k l m in omega (arith, h, top)

pub returns : goal.returns
returns g c b l = elim c.if-this-ne0.branch [
  | then-this-ne0 w ↦
      (let r = vector w32 8 w.predicted_singly.result _ w.predicted_singly.type_inv in
      ap (λ xs. lane (map (to_z w32) xs) b) w.result-is ∙ kept w32 w.predicted_singly.result b r.1 ∙ w.predicted_singly.ensures b l)
  | else-this-ne0 w ↦
      (let r = vector w32 8 w.predicted.result _ w.predicted.type_inv in
      ap (λ xs. lane (map (to_z w32) xs) b) w.result-is ∙ kept w32 w.predicted.result b r.1 ∙ w.predicted.ensures b l)
]
