use Rattle.std.proofs.Common.{◌≡◌, ◌+◌, pos, get_or, arith, inl, inr, ◌∙◌, ap, sym, if◌then◌else◌, rules}
use Rattle.std.proofs.lemmas.Bool.{cases_lt, cases_Bool, true≢false}
use Rattle.lanes.specs.Lanes.{place}
use Rattle.sample_prediction.specs.Differences.{directional_differences}
use Rattle.predict_core.specs.Rooms.{lower_difference}
use Rattle.group_prediction.specs.GroupLines.{spectral_from}
use Rattle.group_prediction.specs.declared.long.lines.LongLines.{LongLines}
use Rattle.predict_core.proofs.Components.{reduced_at, full_at, direction_at}
use Rattle.group_prediction.proofs.long.lines.fill_components.Goals as goal
use Rattle.group_prediction.proofs.long.lines.fill_components.Goals.{then-not-settings, else-not-settings}

pub returns-clause-components : goal.returns-clause-components
returns-clause-components c i k l h m =
    let s = c.args.settings.now in let told = c.fill_spectral.ensures.spectral i k l h in elim (cases_Bool s.predictor.reduced) [
      | inl e ↦ (let from : spectral_from s.predictor ≡ 0 = ap (λ b. if b then 0 else 3) e in
          told (omega (arith, from)) m
          ∙ ap (λ n. lower_difference s.predictor c.args.run.now.image s.band c.args.run.now.y (c.args.run.now.x + i) n) (omega (arith, from))
          ∙ sym (reduced_at s.predictor c.args.run.now.image s.band c.args.run.now.y (c.args.run.now.x + i) k e))
      | inr e ↦ (let from : spectral_from s.predictor ≡ 3 = ap (λ b. if b then 0 else 3) e in elim (cases_lt k 3) [
        | inl q ↦ (let written : place c.if-not-settings.out.components k i
            ≡ get_or (directional_differences s.predictor c.args.run.now.image s.band c.args.run.now.y (c.args.run.now.x + i)) k (pos 0) = elim c.if-not-settings.branch [
              | then-not-settings w ↦ ap (λ (o : LongLines). place o.components k i) w.out-is ∙ w.fill_directions.ensures i k l h q
              | else-not-settings w ↦ absurd (true≢false (search rules))
            ] in
            c.fill_spectral.ensures.others k i (omega (arith, from, q)) ∙ written
            ∙ sym (direction_at s.predictor c.args.run.now.image s.band c.args.run.now.y (c.args.run.now.x + i) k e q))
        | inr q ↦ told (omega (arith, from, q)) m
            ∙ ap (λ n. lower_difference s.predictor c.args.run.now.image s.band c.args.run.now.y (c.args.run.now.x + i) n) (omega (arith, from))
            ∙ sym (full_at s.predictor c.args.run.now.image s.band c.args.run.now.y (c.args.run.now.x + i) k e q)
      ])
    ]
