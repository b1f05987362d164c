use Rattle.std.proofs.Common.{◌∙◌, ◌+◌, ◌-◌, ap, inl, inr, w16}
use Rattle.std.proofs.lemmas.Bool.{cases_lt}
use Rattle.lanes.specs.Lanes.{lane}
use Rattle.lanes.proofs.Ranges.{vector}
use Rattle.lanes.proofs.Steps.{kept}
use Rattle.wave_inversion.proofs.WaveParts.{diagonal_low, diagonal_high}
use Rattle.wave_inversion.proofs.components.diagonal.Goals as goal

pub returns : goal.returns
returns c b l =
    let lower = vector w16 8 c.numbers-lower.result _ c.numbers-lower.type_inv in
    let own = vector w16 8 c.numbers-own.result _ c.numbers-own.type_inv in
    let all = vector w16 8 c.moved.result _ c.moved.type_inv in
    ap (λ v. lane v b) c.row_of.ensures ∙ kept w16 c.moved.result b all.1 ∙ elim (cases_lt b c.args.lag) [
      | inl low ↦ c.moved.ensures.first b low ∙ kept w16 c.numbers-lower.result (8 + b - c.args.lag) lower.1 ∙ ap (λ v. lane v (8 + b - c.args.lag)) c.numbers-lower.ensures
          ∙ diagonal_low c.args.lower.now c.args.own.now c.args.k c.args.lag b low
      | inr high ↦ c.moved.ensures.second b high l ∙ kept w16 c.numbers-own.result (b - c.args.lag) own.1 ∙ ap (λ v. lane v (b - c.args.lag)) c.numbers-own.ensures
          ∙ diagonal_high c.args.lower.now c.args.own.now c.args.k c.args.lag b high
    ]
