-- The components of U, one by one.
use Rattle.std.proofs.Common.{◌≡◌, ℕ, zero, suc, ◌+◌, ◌-◌, ◌<◌, ◌≤◌, pos, false, true, [], ◌∷◌, ◌++◌, inl, inr, get_or, sym, ap, ◌∙◌, arith}
use Rattle.std.proofs.lemmas.List.{get_or_append_left, get_or-append_right, get_or_past}
use Rattle.std.proofs.Math.Seq.{get_or-append_seam}
use Rattle.std.proofs.lemmas.Bool.{cases_eq, cases_lt}
use Rattle.predict_core.specs.Rooms.{lower_difference}
use Rattle.predict_core.proofs.Quads.{lower_is, lower_none}
use Rattle.sample_prediction.specs.Predictor.{previous_bands}
use Rattle.sample_prediction.proofs.Filling.{spectral_length}
use Rattle.sample_prediction.proofs.Directions.{directional_length, reduced_vector_is, full_vector_is}
use Rattle.cube_core.specs.Image.{Image}
use Rattle.sample_prediction.specs.declared.predictor.Predictor.{Predictor}
use Rattle.sample_prediction.specs.Differences.{central_difference, directional_differences, spectral_differences, difference_vector}

pub three : (P : ℕ → Type 0) → P 0 → P 1 → P 2 → (k : ℕ) → k < 3 → P k
three P a b d zero l = a
three P a b d (suc zero) l = b
three P a b d (suc (suc zero)) l = d
three P a b d (suc (suc (suc k))) l = absurd (omega (arith, l))

-- the central difference of each previous band
spectral_at : (p : Predictor) (c : Image) (z y x m k : ℕ) → k < m
    → get_or (spectral_differences p c z y x m) k (pos 0) ≡ central_difference p c (z - (k + 1)) y x
unfolding spectral_differences
spectral_at p c z y x zero k h = absurd (omega (arith, h))
spectral_at p c z y x (suc m) k h =
    let l = spectral_length p c z y x m in elim (cases_eq k m) [
      | inl e ↦ ap (λ j. get_or (spectral_differences p c z y x m ++ central_difference p c (z - suc m) y x ∷ []) j (pos 0)) (e ∙ sym l)
          ∙ get_or-append_seam (spectral_differences p c z y x m) (central_difference p c (z - suc m) y x) [] (pos 0)
          ∙ ap (λ j. central_difference p c j y x) (omega (arith, e))
      | inr n ↦ get_or_append_left (spectral_differences p c z y x m) (central_difference p c (z - suc m) y x ∷ []) (pos 0) k (omega (arith, l, h, n))
          ∙ spectral_at p c z y x m k (omega (arith, h, n))
    ]

-- it is the lower difference there, which is 0 after the last previous band
lower_at : (p : Predictor) (c : Image) (z y x k : ℕ)
    → get_or (spectral_differences p c z y x (previous_bands p z)) k (pos 0) ≡ lower_difference p c z y x (k + 1)
lower_at p c z y x k = elim (cases_lt k (previous_bands p z)) [
  | inl h ↦ spectral_at p c z y x (previous_bands p z) k h ∙ sym (lower_is p c z y x (k + 1) (omega (arith, h)))
  | inr h ↦ get_or_past (spectral_differences p c z y x (previous_bands p z)) k (pos 0) (let l = spectral_length p c z y x (previous_bands p z) in omega (arith, l, h))
      ∙ sym (lower_none p c z y x (k + 1) (omega (arith, h)))
]

-- a component of U: a directional difference, or a lower one
pub reduced_at : (p : Predictor) (c : Image) (z y x k : ℕ) → p.reduced ≡ true
    → get_or (difference_vector p c z y x) k (pos 0) ≡ lower_difference p c z y x (k + 1)
reduced_at p c z y x k e = ap (λ us. get_or us k (pos 0)) (reduced_vector_is p c z y x e) ∙ lower_at p c z y x k

pub direction_at : (p : Predictor) (c : Image) (z y x k : ℕ) → p.reduced ≡ false → k < 3
    → get_or (difference_vector p c z y x) k (pos 0) ≡ get_or (directional_differences p c z y x) k (pos 0)
direction_at p c z y x k e h =
    ap (λ us. get_or us k (pos 0)) (full_vector_is p c z y x e)
    ∙ get_or_append_left (directional_differences p c z y x) (spectral_differences p c z y x (previous_bands p z)) (pos 0) k
    (let l = directional_length p c z y x in omega (arith, l, h))

pub full_at : (p : Predictor) (c : Image) (z y x k : ℕ) → p.reduced ≡ false → 3 ≤ k
    → get_or (difference_vector p c z y x) k (pos 0) ≡ lower_difference p c z y x (k - 3 + 1)
full_at p c z y x k e h =
    ap (λ us. get_or us k (pos 0)) (full_vector_is p c z y x e)
    ∙ get_or-append_right (directional_differences p c z y x) (spectral_differences p c z y x (previous_bands p z)) 3 k (pos 0)
    (directional_length p c z y x) h
    ∙ lower_at p c z y x (k - 3)
