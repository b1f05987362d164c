use Rattle.std.proofs.Common.{◌≡◌, ◌<◌, ◌≤◌, ◌+◌, ◌-◌, ℕ, pos, get_or, length, sym, ap, ◌∙◌, refl, arith, rules, inl, inr, if◌then◌else◌}
use Rattle.std.proofs.lemmas.Bool.{cases_eq, cases_Bool}
use Rattle.cube_core.specs.Image.{Image}
use Rattle.sample_prediction.specs.declared.predictor.Predictor.{Predictor}
use Rattle.sample_prediction.specs.Differences.{central_difference, difference_vector}
use Rattle.sample_prediction.specs.Predictor.{previous_bands}
use Rattle.predict_core.specs.Rooms.{lower_difference}
use Rattle.group_prediction.specs.GroupLines.{spectral_from}
use Rattle.predict_core.proofs.Components.{reduced_at, full_at}
use Rattle.predict_core.proofs.Quads.{lower_is, lower_none}
use Rattle.group_prediction.proofs.long.lines.fill_lower.Goals as goal

pub returns-then-below-settings : goal.returns-then-below-settings
returns-then-below-settings c i l h =
    let s = c.args.settings.now in let within : i < 64 = (let f = c.requires.run.few in omega (arith, l, f)) in
    c.clear_line.ensures i within ∙ sym (lower_none s.predictor c.args.run.now.image s.band c.args.run.now.y (c.args.run.now.x + i) c.args.below
    (let n = s.near_is in let t = c.if-below-settings.true in omega (arith, n, t)))

-- what the next lower band's lines hold of the band
next_lower : (p : Predictor) (c : Image) (z y x below from : ℕ) → 2 ≤ below → below ≤ previous_bands p z → from ≡ spectral_from p
    → get_or (difference_vector p c (z - 1) y x) (from + below - 2) (pos 0) ≡ lower_difference p c z y x below
next_lower p c z y x below from two near e =
    vector ∙ lower_is p c (z - 1) y x (below - 1) (omega (arith, near, two)) ∙ ap (λ k. central_difference p c k y x) (omega (arith, near, two))
    ∙ sym (lower_is p c z y x below near)
  where
    vector : get_or (difference_vector p c (z - 1) y x) (from + below - 2) (pos 0) ≡ lower_difference p c (z - 1) y x (below - 1)
    vector = elim (cases_Bool p.reduced) [
      | inl t ↦ (let none : from ≡ 0 = e ∙ ap (λ b. if b then 0 else 3) t in
          ap (λ k. get_or (difference_vector p c (z - 1) y x) k (pos 0)) (omega (arith, none)) ∙ reduced_at p c (z - 1) y x (below - 2) t
          ∙ ap (lower_difference p c (z - 1) y x) (omega (arith, two)))
      | inr t ↦ (let three : from ≡ 3 = e ∙ ap (λ b. if b then 0 else 3) t in
          ap (λ k. get_or (difference_vector p c (z - 1) y x) k (pos 0)) (omega (arith, three, two)) ∙ full_at p c (z - 1) y x (below + 1) t (omega (arith, two))
          ∙ ap (lower_difference p c (z - 1) y x) (omega (arith, two)))
    ]

pub returns-then-lines-settings : goal.returns-then-lines-settings
returns-then-lines-settings c i l h =
    let s = c.args.settings.now in let last : ℕ = length c.args.before.now - 1 in let some = c.if-not-is_empty.true in
    let near : c.args.below ≤ previous_bands s.predictor s.band = (let n = s.near_is in let t = c.if-below-settings.false in omega (arith, n, t)) in
    let inside : last < length c.args.before.now = search rules in let same = c.if-lines-settings.true in
    elim (cases_eq c.args.below 1) [
      | inl e ↦ ap (λ xs. get_or xs i (pos 0)) (c.copy_lower.ensures.own e) ∙ c.requires.before last inside i l h
          ∙ ap (λ z. central_difference s.predictor c.args.run.now.image z c.args.run.now.y (c.args.run.now.x + i)) (same ∙ omega (arith, e))
          ∙ sym (lower_is s.predictor c.args.run.now.image s.band c.args.run.now.y (c.args.run.now.x + i) c.args.below near)
      | inr n ↦ (let two : 2 ≤ c.args.below = (let o = c.requires.below_in in omega (arith, n, o)) in
          ap (λ xs. get_or xs i (pos 0)) (c.copy_lower.ensures.lower two)
          ∙ c.requires.components last inside i (spectral_from s.predictor + c.args.below - 2) l h (omega (arith, two))
          ∙ ap (λ z. get_or (difference_vector s.predictor c.args.run.now.image z c.args.run.now.y (c.args.run.now.x + i)) (spectral_from s.predictor + c.args.below - 2) (pos 0)) same
          ∙ next_lower s.predictor c.args.run.now.image s.band c.args.run.now.y (c.args.run.now.x + i) c.args.below (spectral_from s.predictor) two near refl)
    ]

pub returns : goal.returns
returns c i l h =
    let s = c.args.settings.now in
    let near : c.args.below ≤ previous_bands s.predictor s.band = (let n = s.near_is in let t = c.if-below-settings.false in omega (arith, n, t)) in
    c.fill_central.ensures.own_are i l h ∙ sym (lower_is s.predictor c.args.run.now.image s.band c.args.run.now.y (c.args.run.now.x + i) c.args.below near)
