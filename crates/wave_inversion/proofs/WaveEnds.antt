-- Where the lanes of a wavefront end: the rows that hold their weights there, and their columns.
use Rattle.std.proofs.Common.{◌≡◌, ◌∙◌, ◌+◌, ◌-◌, ◌*◌, ◌<◌, ◌≤◌, ℕ, ℤ, pos, List, take, subst, sym, ap, ap₂, inl, inr, arith}
use Rattle.std.proofs.lemmas.Bool.{cases_lt}
use Rattle.std.proofs.lemmas.Bool.Decides.{nat_tests}
use Rattle.cube_core.specs.Image.{Image}
use Rattle.header_bits.specs.declared.params.Params.{Params}
use Rattle.lanes.specs.Lanes.{place}
use Rattle.band_lanes.specs.Rows.{weights_of}
use Rattle.sample_prediction.specs.Chain.{AreWeightsAt}
use Rattle.sample_prediction.specs.Prediction.{weight_vector}
use Rattle.predict_core.specs.declared.settings.Settings.{Settings}
use Rattle.predict_core.specs.Offsets.{number_at}
use Rattle.wave_inversion.specs.WaveLanes.{AreInStep, column_at, first_column, first_step}
use Rattle.wave_inversion.specs.WaveTiles.{ended, end_column, rows_at_end}

-- what holds of the rows that were kept for a lane, or else of the last ones
pub at_end : (P : List (List ℤ) → Type 0) (lanes b : ℕ) (ends : ℕ → List (List ℤ)) (weights : List (List ℤ)) → (b < lanes → P (ends b)) → (lanes ≤ b → P weights)
    → P (rows_at_end lanes ends weights b)
at_end P lanes b ends weights kept left = elim (cases_lt b lanes) [
  | inl before ↦ subst P (kept_at_end before) (kept before)
  | inr after ↦ subst P (left_at_end after) (left after)
]
  where
    kept_at_end : b < lanes → ends b ≡ rows_at_end lanes ends weights b
    kept_at_end h = grind (arith, nat_tests, h)

    left_at_end : lanes ≤ b → weights ≡ rows_at_end lanes ends weights b
    left_at_end h = grind (arith, nat_tests, h)

-- all lanes have begun before the first one ends
pub whole_far : (columns origin last : ℕ) → 16 ≤ columns → origin + 2 ≤ columns → 8 ≤ last → (origin ≡ 0 → 15 ≤ last) → (0 < origin → 7 ≤ origin)
    → 15 ≤ origin + (last - ended columns origin last)
whole_far columns origin last some inside more all later = elim (cases_lt 0 origin) [
  | inl after ↦ (let far = later after in omega (arith, inside, more, far))
  | inr none ↦ (let far = all (omega (arith, none)) in omega (arith, some, none, far))
]

-- a lane that has come to the end of the row
pub ends_there : (columns origin last b : ℕ) → b < ended columns origin last → origin + 2 ≤ columns → b < 8
    → column_at origin (last - ended columns origin last + b) b ≡ end_column columns origin last b
ends_there columns origin last b h some few = omega (arith, h, some, few)

-- and one that has not come beyond it
pub ends_before : (columns origin last b : ℕ) → ended columns origin last ≤ b → 0 < columns → column_at origin last b ≡ end_column columns origin last b
ends_before columns origin last b h some = omega (arith, h, some)

-- what is found in step `last`
module _ {q : ℕ} {p : Params} {s : ℕ → Settings} {d : Image} {first y origin last columns : ℕ} {numbers own weights : List (List ℤ)}
    (now : AreInStep q p s d first y origin last 8 last numbers own weights) (same : columns ≡ d.shape.columns) where
  pub offsets_found : (b i : ℕ) → b < 8 → first + b < d.shape.bands → first_step origin b ≤ i → i < last → column_at origin i b < columns
      → place numbers i b ≡ pos (number_at d (first + b) y (column_at origin i b))
  offsets_found b i fits exists low high right = now.offsets i b (omega (arith, low)) high fits exists (omega (arith, low)) (omega (arith, right, same))

  pub weights_found : (ends : ℕ → List (List ℤ)) (b n : ℕ) → b < 8 → first + b < d.shape.bands → origin + 2 ≤ columns → (s b).count ≡ n
      → (b < last - (last - ended columns origin last) → column_at origin (last - ended columns origin last + b) b ≤ d.shape.columns
      → AreWeightsAt p (s b).predictor d (first + b) (y * d.shape.columns + column_at origin (last - ended columns origin last + b) b)
      (take (s b).count (weights_of q b (ends b))))
      → take n (weights_of q b (rows_at_end (ended columns origin last) ends weights b))
      ≡ weight_vector p d (first + b) (y * columns + end_column columns origin last b)
  weights_found ends b n fits exists inside many kept =
      at_end (λ (rows : List (List ℤ)). take n (weights_of q b rows) ≡ weight_vector p d (first + b) (y * columns + end_column columns origin last b))
      (ended columns origin last) b ends weights
      (λ before.
      let at = ends_there columns origin last b before inside fits in
      ap (λ (n : ℕ). take n (weights_of q b (ends b))) (sym many) ∙ (kept (omega (arith, before, inside)) (omega (arith, at, inside, same))).weights
      ∙ ap₂ (λ (n x : ℕ). weight_vector p d (first + b) (y * n + x)) (sym same) at)
      (λ after.
      let at = ends_before columns origin last b after (omega (arith, inside)) in
      ap (λ (n : ℕ). take n (weights_of q b weights)) (sym many) ∙ (now.weights_at b fits exists (omega (arith, at, inside, same))).weights
      ∙ ap₂ (λ (n x : ℕ). weight_vector p d (first + b) (y * n + x)) (sym same) at)

-- the place of a band that has come to its end in a piece, or to where it begins in one
pub within_end : (t y n m origin last b : ℕ) → n ≡ m → t ≡ y * m + end_column m origin last b → (y * n ≤ t) × (t ≤ y * n + n)
within_end t y n m origin last b same at = rw same (omega (arith, at), omega (arith, at))

pub within_start : (t y n m origin b : ℕ) → n ≡ m → origin + 2 ≤ m → t ≡ y * m + first_column origin b → (y * n ≤ t) × (t ≤ y * n + n)
within_start t y n m origin b same inside at = rw same (omega (arith, at), omega (arith, at, inside))
