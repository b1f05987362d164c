-- What is read at a place is earlier.
use Rattle.std.proofs.Common.{◌≡◌, ◌≢◌, inl, inr, ◌+◌, ◌-◌, ◌*◌, ◌/◌, ◌%◌, ◌<◌, ◌≤◌, ℕ, zero, suc, ℤ, false, List}
use Rattle.std.proofs.Common.{arith, refl, ◌∙◌, ap, div-add-mod'}
use Rattle.std.proofs.Math.Nat.{mod-lt}
use Rattle.std.proofs.Math.Arith.{digits_lt}
use Rattle.std.proofs.lemmas.Nat.{div_below}
use Rattle.std.proofs.lemmas.Bool.Decides.{nat_tests}
use Rattle.header_bits.specs.declared.params.Params.{Params}
use Rattle.cube_core.specs.Shape.{Sizes}
use Rattle.cube_core.specs.Kind.{SampleKind, smid}
use Rattle.cube_core.specs.Image.{Image, IsPlace, sample_at}
use Rattle.sample_prediction.specs.declared.predictor.Predictor.{Predictor}
use Rattle.sample_prediction.specs.Predictor.{predictor_of, previous_bands}
use Rattle.sample_prediction.specs.LocalSum.{local_sum}
use Rattle.sample_prediction.specs.Differences.{central_difference, spectral_differences, directional_differences, difference_vector}
use Rattle.sample_prediction.specs.Prediction.{scaled_there, next_weights, weight_vector, first_scaled, scaled_prediction}
use Rattle.sample_prediction.specs.Residual.{mapped_residual}
use Rattle.predict_core.specs.Precedence.{Agree, PlacesPrecede}
use Rattle.predict_core.specs.RunPlaces.{AreAlikeBeside}
use Rattle.predict_core.proofs.Earlier.{before_is}

row_more : (a b k : ℕ) → suc a ≡ b → a * k + k ≡ b * k
row_more a b k e = let f : a * k + k ≡ suc a * k = omega arith in f ∙ ap (λ n. n * k) e

module _ (p : Predictor) (c d : Image) (same : c.shape.columns ≡ d.shape.columns) (z y x : ℕ)
    (later : 0 < y + x) (wide : p.column ≡ false → 2 ≤ c.shape.columns) (column : x < c.shape.columns)
    (reads : (y' x' : ℕ) → x' < c.shape.columns → y' * c.shape.columns + x' < y * c.shape.columns + x → y' ≤ y
    → sample_at c z y' x' ≡ sample_at d z y' x') where
  row_up : (x' : ℕ) → x' < c.shape.columns → y ≢ 0 → (y - 1) * c.shape.columns + x' < y * c.shape.columns + x
  row_up x' h n =
      let e : (y - 1) * c.shape.columns + c.shape.columns ≡ y * c.shape.columns = row_more (y - 1) y c.shape.columns (omega arith) in omega (arith, e)

  above : (x' : ℕ) → x' < c.shape.columns → y ≢ 0 → sample_at c z (y - 1) x' ≡ sample_at d z (y - 1) x'
  above x' h n = reads (y - 1) x' h (row_up x' h n) (omega arith)

  left : x ≢ 0 → sample_at c z y (x - 1) ≡ sample_at d z y (x - 1)
  left n = reads y (x - 1) (omega arith) (omega arith) (omega arith)

  pub local_sum_same : local_sum p c z y x ≡ local_sum p d z y x
  unfolding local_sum
  local_sum_same =
      let here = above x column in let north_west = above (x - 1) (omega (arith, column)) in
      let north_east = λ (l : x + 1 < c.shape.columns). above (x + 1) l in let first : y ≡ 0 → x ≢ 0 = λ e f. omega (arith, later, e, f) in
      grind (arith, nat_tests, same, here, left, north_west, north_east, wide, first)

  directional_same : directional_differences p c z y x ≡ directional_differences p d z y x
  unfolding directional_differences
  directional_same =
      let here = above x column in let north_west = above (x - 1) (omega (arith, column)) in grind (arith, nat_tests, local_sum_same, here, left, north_west)

-- what is read at a place of one band
module _ (p : Predictor) (c d : Image) (z y x : ℕ) (place : IsPlace c.shape z y x) (later : 0 < y + x) (wide : p.column ≡ false → 2 ≤ c.shape.columns) where
  -- of the bands below
  module _ {t : ℕ} (agree : Agree c d z t (suc (y * c.shape.columns + x))) where
    same_columns : c.shape.columns ≡ d.shape.columns
    same_columns = ap (λ (s : Sizes). s.columns) agree.alike.shape

    under : (z' y' x' : ℕ) → z' < z → x' < c.shape.columns → y' * c.shape.columns + x' ≤ y * c.shape.columns + x → y' ≤ y
        → sample_at c z' y' x' ≡ sample_at d z' y' x'
    under z' y' x' b h l k =
        agree.under z' y' x' (record { band = (let r = place.band in omega arith); row = (let r = place.row in omega arith); column = h }) b (omega arith)

    central_same : (z' : ℕ) → z' < z → central_difference p c z' y x ≡ central_difference p d z' y x
    unfolding central_difference
    central_same z' b =
        let s = under z' y x b place.column (omega arith) (omega arith) in
        let m = local_sum_same p c d same_columns z' y x later wide place.column (λ y' x' h l k. under z' y' x' b h (omega arith) k) in rw (s, m) refl

    pub spectral_same : (n : ℕ) → n ≤ z → spectral_differences p c z y x n ≡ spectral_differences p d z y x n
    unfolding spectral_differences
    spectral_same zero h = refl
    spectral_same (suc n) h = let a = spectral_same n (omega arith) in let b = central_same (z - suc n) (omega arith) in rw (a, b) refl

  module _ (agree : Agree c d z (y * c.shape.columns + x) (suc (y * c.shape.columns + x))) where
    own : (y' x' : ℕ) → x' < c.shape.columns → y' * c.shape.columns + x' < y * c.shape.columns + x → y' ≤ y → sample_at c z y' x' ≡ sample_at d z y' x'
    own y' x' h l k = agree.own y' x' (record { band = place.band; row = (let r = place.row in omega arith); column = h }) l

    pub sum_same : local_sum p c z y x ≡ local_sum p d z y x
    sum_same = local_sum_same p c d (same_columns agree) z y x later wide place.column own

    pub vector_same : difference_vector p c z y x ≡ difference_vector p d z y x
    unfolding difference_vector
    vector_same =
        let a = spectral_same agree (previous_bands p z) (omega arith) in
        let b = directional_same p c d (same_columns agree) z y x later wide place.column own in rw (a, b) refl

    pub scaled_there_same : (ws : List ℤ) → scaled_there p c z y x ws ≡ scaled_there p d z y x ws
    unfolding scaled_there
    scaled_there_same ws = rw (sum_same, vector_same, agree.alike.kind) refl

-- images that are one beside a run of a band agree on the bands below it
pub beside_agree : {c d : Image} {z y x n : ℕ} → AreAlikeBeside c d z y x n → (z' t u : ℕ) → z' ≤ z → (z' ≡ z → t ≡ 0) → Agree c d z' t u
beside_agree a z' t u low none = record {
  alike = a.alike;
  own = λ y x q l. a.samples z' y x q (λ e f g. absurd (let first = none e in omega arith));
  under = λ z'' y x q b l. a.samples z'' y x q (λ e f g. absurd (omega (arith, e, b, low)));
}

-- images that agree so far agree less far
pub agree_less : {c d : Image} {z t u : ℕ} (s v : ℕ) → s ≤ t → v ≤ u → Agree c d z t u → Agree c d z s v
agree_less s v h k a = record { alike = a.alike; own = λ y x q l. a.own y x q (omega arith); under = λ z' y x q b l. a.under z' y x q b (omega arith) }

pub later_place : (columns y x : ℕ) → 0 < y * columns + x → 0 < y + x
later_place columns zero x l = omega (arith, l)
later_place columns (suc y) x l = omega arith

pub first_scaled_same : (p : Predictor) (c d : Image) (z : ℕ) → z < c.shape.bands → 0 < c.shape.columns → 0 < c.shape.rows → Agree c d z 0 1
    → first_scaled p c z ≡ first_scaled p d z
unfolding first_scaled
first_scaled_same p c d z band some rows a =
    let kind = ap (λ (k : SampleKind). smid k) a.alike.kind in
    let below = λ (n : 0 < z). a.under (z - 1) 0 0 (record { band = omega arith; row = rows; column = some }) (omega arith) (omega arith) in
    grind (arith, nat_tests, kind, below)

-- what is known of a band at its place t
module _ (p : Params) (c d : Image) (z : ℕ) (band : z < c.shape.bands) (some : 0 < c.shape.columns) (wide : p.column ≡ false → 2 ≤ c.shape.columns) where
  module _ (t : ℕ) (inside : t < c.shape.rows * c.shape.columns) where
    abbrev y : ℕ
    y = t / c.shape.columns

    abbrev x : ℕ
    x = t % c.shape.columns

    index : y * c.shape.columns + x ≡ t
    index = div-add-mod' t c.shape.columns

    place : IsPlace c.shape z y x
    place = record { band = band; row = div_below t c.shape.columns c.shape.rows some inside; column = mod-lt t some }

    module _ (later : 0 < t) (agree : Agree c d z t (suc t)) where
      before : 0 < y + x
      before = later_place c.shape.columns y x (omega (arith, index))

      scaled_at_same : (ws : List ℤ) → scaled_there (predictor_of p) c z y x ws ≡ scaled_there (predictor_of p) d z y x ws
      scaled_at_same ws = scaled_there_same (predictor_of p) c d z y x place before wide (rw index agree) ws

      next_same : (ws : List ℤ) → sample_at c z y x ≡ sample_at d z y x → next_weights (predictor_of p) c z t ws ≡ next_weights (predictor_of p) d z t ws
      unfolding next_weights
      next_same ws sample =
          let differences = vector_same (predictor_of p) c d z y x place before wide (rw index agree) in
          rw (scaled_at_same ws, differences, sample, agree.alike.shape, agree.alike.kind) refl

  pub weights_same : (t : ℕ) → t ≤ c.shape.rows * c.shape.columns → Agree c d z t t → weight_vector p c z t ≡ weight_vector p d z t
  unfolding weight_vector
  weights_same zero h a = refl
  weights_same (suc zero) h a = refl
  weights_same (suc (suc t)) h a =
      next_same (suc t) h (omega arith) (agree_less _ _ (omega arith) (omega arith) a) (weight_vector p c z (suc t))
      (a.own _ _ (place (suc t) h) (let e = index (suc t) h in omega arith))
      ∙ ap (next_weights (predictor_of p) d z (suc t)) (weights_same (suc t) (omega arith) (agree_less _ _ (omega arith) (omega arith) a))

  pub scaled_same : (t : ℕ) → t < c.shape.rows * c.shape.columns → Agree c d z t (suc t) → scaled_prediction p c z t ≡ scaled_prediction p d z t
  unfolding scaled_prediction
  scaled_same zero h a = first_scaled_same (predictor_of p) c d z band some (let row = (place zero h).row in omega arith) a
  scaled_same (suc t) h a =
      let weights = weights_same (suc t) (omega arith) (agree_less _ _ (omega arith) (omega arith) a) in
      rw (scaled_at_same (suc t) h (omega arith) a (weight_vector p c z (suc t)), weights, a.alike.shape) refl

  pub residual_same : (t : ℕ) → t < c.shape.rows * c.shape.columns → Agree c d z (suc t) (suc t) → mapped_residual p c z t ≡ mapped_residual p d z t
  unfolding mapped_residual
  residual_same t h a =
      let sample = a.own _ _ (place t h) (let e = index t h in omega arith) in
      rw (scaled_same t h (agree_less _ _ (omega arith) (omega arith) a), sample, a.alike.shape, a.alike.kind) refl

pub places_precede_lem : PlacesPrecede
places_precede_lem p order c d place wide alike there reads =
    let some : 0 < c.shape.columns = (let q = there.column in omega arith) in let t : ℕ = place.y * c.shape.columns + place.x in
    let agree : Agree c d place.z t (suc t) = record {
      alike = alike;
      own = λ y x q l. reads _ q (before_is order c.shape.columns place _ there.column q.column (inr (refl, l)));
      under = λ z y x q b l. reads _ q (before_is order c.shape.columns place _ there.column q.column (inl (b, omega arith)));
    } in
    let within : t < c.shape.rows * c.shape.columns = digits_lt there.row there.column in record {
      sum = λ l. sum_same (predictor_of p) c d place.z place.y place.x there (later_place c.shape.columns place.y place.x l) wide agree;
      differences = λ l. vector_same (predictor_of p) c d place.z place.y place.x there (later_place c.shape.columns place.y place.x l) wide agree;
      weights = weights_same p c d place.z there.band some wide t (omega (arith, within)) (agree_less _ _ (omega arith) (omega arith) agree);
      scaled = scaled_same p c d place.z there.band some wide t within agree;
    }
