use Rattle.std.proofs.Common.{◌≡◌, ◌+◌, ◌^◌, ◌≤◌, ◌∙◌, ap, arith, map, to_z, w16, pow_mono, rules}
use Rattle.std.proofs.lemmas.Nat.{pow_pos}
use Rattle.lanes.specs.Lanes.{lane}
use Rattle.lanes.proofs.Ranges.{vector}
use Rattle.lanes.proofs.Steps.{kept}
use Rattle.band_lanes.proofs.Updates.{limited_is, whole_is}
use Rattle.band_lanes.proofs.update.limited.Goals as goal
use Rattle.band_lanes.proofs.update.limited.Goals.{then-this-ne0, else-this-ne0}

pub returns : goal.returns
returns g c k w l e =
    let n = vector w16 16 c.args.weights _ c.well_formed.0 in let step = c.args.step in
    let small : step.omega + 2 ≤ 15 = (let h = step.omega_in.1 in omega (arith, h)) in let power : 2 ^ (step.omega + 2) ≤ 2 ^ 15 = pow_mono small in
    let some = pow_pos (step.omega + 2) in let same = kept w16 c.args.weights k n.1 in
    elim c.if-this-ne0.branch [
      | then-this-ne0 v ↦
          (let r = vector w16 16 v.within.result _ v.within.type_inv in
          ap (λ xs. lane (map (to_z w16) xs) k) v.result-is ∙ kept w16 v.within.result k r.1 ∙ v.within.ensures k l
          ∙ limited_is w _ step.limit step.omega power some step.limit_is (same ∙ e))
      | else-this-ne0 v ↦
          (let whole : step.omega ≡ 13 = c.requires.whole (search rules) in
          ap (λ xs. lane (map (to_z w16) xs) k) v.result-is ∙ same ∙ e ∙ whole_is w step.omega whole)
    ]
