-- What is read at a place is near: a residual of a band depends on that band and on the previous bands alone from which it is predicted.
use Rattle.std.proofs.Common.{◌≡◌, ◌+◌, ◌-◌, ◌*◌, ◌/◌, ◌%◌, ◌<◌, ◌≤◌, ℕ, zero, suc, ℤ, false, List, [], ◌∷◌, refl, ap, ◌∙◌, arith, div-add-mod'}
use Rattle.std.specs.List.{flat_map}
use Rattle.std.proofs.Math.Nat.{mod-lt}
use Rattle.std.proofs.Math.Arith.{digits_lt}
use Rattle.std.proofs.lemmas.Nat.{div_below}
use Rattle.std.proofs.lemmas.Bool.Decides.{nat_tests}
use Rattle.header_bits.specs.declared.params.Params.{Params}
use Rattle.header_bits.specs.Lawful.{IsLawful}
use Rattle.cube_core.specs.Shape.{Sizes}
use Rattle.cube_core.specs.Kind.{SampleKind, smid}
use Rattle.cube_core.specs.Image.{Image, IsPlace, sample_at}
use Rattle.cube_core.specs.Order.{upto}
use Rattle.sample_prediction.specs.declared.predictor.Predictor.{Predictor}
use Rattle.sample_prediction.specs.Predictor.{predictor_of, previous_bands}
use Rattle.sample_prediction.specs.LocalSum.{local_sum}
use Rattle.sample_prediction.specs.Differences.{central_difference, spectral_differences, directional_differences, difference_vector}
use Rattle.sample_prediction.specs.Prediction.{scaled_there, next_weights, weight_vector, first_scaled, scaled_prediction}
use Rattle.sample_prediction.specs.Residual.{mapped_residual}
use Rattle.predict_core.specs.Precedence.{AreAlike}
use Rattle.predict_core.proofs.Frame.{local_sum_same, later_place}
use Rattle.predict_core.proofs.Kept.{wide_of}
use Rattle.file_encoding.specs.Own.{row_of, rows_of}
use Rattle.file_encoding.proofs.Sending.{same_lists}

-- two images have equal samples at the first t places of band z, and at the first u places of each of the `few` bands before it
pub record AgreeNear (few : ℕ) (c d : Image) (z t u : ℕ) : Type 0 where
  pub alike : AreAlike c d
  pub own : (y x : ℕ) → IsPlace c.shape z y x → y * c.shape.columns + x < t → sample_at c z y x ≡ sample_at d z y x
  pub under : (z' y x : ℕ) → IsPlace c.shape z' y x → z' < z → z ≤ z' + few → y * c.shape.columns + x < u → sample_at c z' y x ≡ sample_at d z' y x

-- images that agree so far agree less far
near_less : {few : ℕ} {c d : Image} {z t u : ℕ} (s v : ℕ) → s ≤ t → v ≤ u → AgreeNear few c d z t u → AgreeNear few c d z s v
near_less s v h k a = record { alike = a.alike; own = λ y x q l. a.own y x q (omega arith); under = λ z' y x q b n l. a.under z' y x q b n (omega arith) }

-- ---- at a place

module _ (p : Predictor) (c d : Image) (same : c.shape.columns ≡ d.shape.columns) (z y x : ℕ)
    (later : 0 < y + x) (wide : p.column ≡ false → 2 ≤ c.shape.columns) (column : x < c.shape.columns)
    (reads : (y' x' : ℕ) → x' < c.shape.columns → y' * c.shape.columns + x' < y * c.shape.columns + x → y' ≤ y
    → sample_at c z y' x' ≡ sample_at d z y' x') where
  row_end : (a b k : ℕ) → suc a ≡ b → a * k + k ≡ b * k
  row_end a b k e = let f : a * k + k ≡ suc a * k = omega arith in f ∙ ap (λ n. n * k) e

  above : (x' : ℕ) → x' < c.shape.columns → 0 < y → sample_at c z (y - 1) x' ≡ sample_at d z (y - 1) x'
  above x' h n =
      let e : (y - 1) * c.shape.columns + c.shape.columns ≡ y * c.shape.columns = row_end (y - 1) y c.shape.columns (omega (arith, n)) in
      reads (y - 1) x' h (omega (arith, e, h)) (omega arith)

  left : 0 < x → sample_at c z y (x - 1) ≡ sample_at d z y (x - 1)
  left n = reads y (x - 1) (omega (arith, column)) (omega (arith, n)) (omega arith)

  sum_there : local_sum p c z y x ≡ local_sum p d z y x
  sum_there = local_sum_same p c d same z y x later wide column reads

  directional_near : directional_differences p c z y x ≡ directional_differences p d z y x
  unfolding directional_differences
  directional_near =
      let here = above x column in let north_west = above (x - 1) (omega (arith, column)) in grind (arith, nat_tests, sum_there, here, left, north_west)

module _ (p : Predictor) (c d : Image) (z y x : ℕ) (place : IsPlace c.shape z y x) (later : 0 < y + x) (wide : p.column ≡ false → 2 ≤ c.shape.columns) where
  -- the bands before
  module _ {t : ℕ} (agree : AgreeNear (previous_bands p z) c d z t (suc (y * c.shape.columns + x))) where
    same_columns : c.shape.columns ≡ d.shape.columns
    same_columns = ap (λ (s : Sizes). s.columns) agree.alike.shape

    under : (z' y' x' : ℕ) → z' < z → z ≤ z' + previous_bands p z → x' < c.shape.columns → y' * c.shape.columns + x' ≤ y * c.shape.columns + x → y' ≤ y
        → sample_at c z' y' x' ≡ sample_at d z' y' x'
    under z' y' x' b n h l k =
        agree.under z' y' x' (record { band = (let r = place.band in omega (arith, r, b)); row = (let r = place.row in omega (arith, r, k)); column = h }) b n (omega (arith, l))

    central_near : (z' : ℕ) → z' < z → z ≤ z' + previous_bands p z → central_difference p c z' y x ≡ central_difference p d z' y x
    unfolding central_difference
    central_near z' b n =
        let s = under z' y x b n place.column (omega arith) (omega arith) in
        let m = local_sum_same p c d same_columns z' y x later wide place.column (λ y' x' h l k. under z' y' x' b n h (omega (arith, l)) k) in rw (s, m) refl

    spectral_near : (n : ℕ) → n ≤ z → n ≤ previous_bands p z → spectral_differences p c z y x n ≡ spectral_differences p d z y x n
    unfolding spectral_differences
    spectral_near zero h k = refl
    spectral_near (suc n) h k =
        let a = spectral_near n (omega (arith, h)) (omega (arith, k)) in
        let b = central_near (z - suc n) (omega (arith, h)) (omega (arith, h, k)) in rw (a, b) refl

  -- the band itself
  module _ (agree : AgreeNear (previous_bands p z) c d z (y * c.shape.columns + x) (suc (y * c.shape.columns + x))) where
    own : (y' x' : ℕ) → x' < c.shape.columns → y' * c.shape.columns + x' < y * c.shape.columns + x → y' ≤ y → sample_at c z y' x' ≡ sample_at d z y' x'
    own y' x' h l k = agree.own y' x' (record { band = place.band; row = (let r = place.row in omega (arith, r, k)); column = h }) l

    sum_near : local_sum p c z y x ≡ local_sum p d z y x
    sum_near = local_sum_same p c d (same_columns agree) z y x later wide place.column own

    vector_near : difference_vector p c z y x ≡ difference_vector p d z y x
    unfolding difference_vector
    vector_near =
        let a = spectral_near agree (previous_bands p z) (omega arith) (omega arith) in
        let b = directional_near p c d (same_columns agree) z y x later wide place.column own in rw (a, b) refl

    scaled_there_near : (ws : List ℤ) → scaled_there p c z y x ws ≡ scaled_there p d z y x ws
    unfolding scaled_there
    scaled_there_near ws = rw (sum_near, vector_near, agree.alike.kind) refl

-- ---- at the first place: the previous band is read unless there is none

first_near : (p : Predictor) (c d : Image) (z : ℕ) → z < c.shape.bands → 0 < c.shape.columns → 0 < c.shape.rows → AgreeNear (previous_bands p z) c d z 0 1
    → first_scaled p c z ≡ first_scaled p d z
unfolding first_scaled
first_near p c d z band some rows a =
    let kind = ap (λ (k : SampleKind). smid k) a.alike.kind in
    let below = λ (n : 0 < z) (m : 0 < p.previous). a.under (z - 1) 0 0 (record { band = omega (arith, band); row = rows; column = some }) (omega (arith, n)) (omega (arith, n, m))
    (omega arith) in
    grind (arith, nat_tests, kind, below)

-- ---- at the place with raster index t

module _ (p : Params) (c d : Image) (z : ℕ) (band : z < c.shape.bands) (some : 0 < c.shape.columns) (wide : p.column ≡ false → 2 ≤ c.shape.columns) where
  abbrev few : ℕ
  few = previous_bands (predictor_of p) z

  module _ (t : ℕ) (inside : t < c.shape.rows * c.shape.columns) where
    abbrev y : ℕ
    y = t / c.shape.columns

    abbrev x : ℕ
    x = t % c.shape.columns

    index : y * c.shape.columns + x ≡ t
    index = div-add-mod' t c.shape.columns

    place : IsPlace c.shape z y x
    place = record { band = band; row = div_below t c.shape.columns c.shape.rows some inside; column = mod-lt t some }

    module _ (later : 0 < t) (agree : AgreeNear few c d z t (suc t)) where
      before : 0 < y + x
      before = later_place c.shape.columns y x (omega (arith, index))

      scaled_at_near : (ws : List ℤ) → scaled_there (predictor_of p) c z y x ws ≡ scaled_there (predictor_of p) d z y x ws
      scaled_at_near ws = scaled_there_near (predictor_of p) c d z y x place before wide (rw index agree) ws

      next_near : (ws : List ℤ) → sample_at c z y x ≡ sample_at d z y x → next_weights (predictor_of p) c z t ws ≡ next_weights (predictor_of p) d z t ws
      unfolding next_weights
      next_near ws sample =
          let differences = vector_near (predictor_of p) c d z y x place before wide (rw index agree) in
          rw (scaled_at_near ws, differences, sample, agree.alike.shape, agree.alike.kind) refl

  pub weights_near : (t : ℕ) → t ≤ c.shape.rows * c.shape.columns → AgreeNear few c d z t t → weight_vector p c z t ≡ weight_vector p d z t
  unfolding weight_vector
  weights_near zero h a = refl
  weights_near (suc zero) h a = refl
  weights_near (suc (suc t)) h a =
      next_near (suc t) h (omega arith) (near_less _ _ (omega arith) (omega arith) a) (weight_vector p c z (suc t))
      (a.own _ _ (place (suc t) h) (let e = index (suc t) h in omega arith))
      ∙ ap (next_weights (predictor_of p) d z (suc t)) (weights_near (suc t) (omega arith) (near_less _ _ (omega arith) (omega arith) a))

  scaled_near : (t : ℕ) → t < c.shape.rows * c.shape.columns → AgreeNear few c d z t (suc t) → scaled_prediction p c z t ≡ scaled_prediction p d z t
  unfolding scaled_prediction
  scaled_near zero h a = first_near (predictor_of p) c d z band some (let row = (place zero h).row in omega arith) a
  scaled_near (suc t) h a =
      let weights = weights_near (suc t) (omega arith) (near_less _ _ (omega arith) (omega arith) a) in
      rw (scaled_at_near (suc t) h (omega arith) a (weight_vector p c z (suc t)), weights, a.alike.shape) refl

  pub residual_near : (t : ℕ) → t < c.shape.rows * c.shape.columns → AgreeNear few c d z (suc t) (suc t) → mapped_residual p c z t ≡ mapped_residual p d z t
  unfolding mapped_residual
  residual_near t h a =
      let sample = a.own _ _ (place t h) (let e = index t h in omega arith) in
      rw (scaled_near t h (near_less _ _ (omega arith) (omega arith) a), sample, a.alike.shape, a.alike.kind) refl

-- ---- all residuals of a band

-- two images have the same planes of band z and of the previous bands from which it is predicted
pub record HaveSamePlanes (p : Params) (c d : Image) (z : ℕ) : Type 0 where
  pub alike : AreAlike c d
  pub same : (z' y x : ℕ) → IsPlace c.shape z' y x → z' ≤ z → z ≤ z' + p.previous → sample_at c z' y x ≡ sample_at d z' y x

module _ (p : Params) (c d : Image) (z : ℕ) (lawful : IsLawful p) (shape : c.shape ≡ p.shape) (band : z < c.shape.bands) (planes : HaveSamePlanes p c d z) where
  some : 0 < c.shape.columns
  some = rw shape lawful.sizes.columns.0

  agree_near : (t : ℕ) → AgreeNear (previous_bands (predictor_of p) z) c d z t t
  agree_near t = record {
    alike = planes.alike;
    own = λ y x q l. planes.same z y x q (omega arith) (omega arith);
    under = λ z' y x q b n l. planes.same z' y x q (omega (arith, b)) (omega (arith, n));
  }

  residual_there : (y x : ℕ) → y < c.shape.rows → x < c.shape.columns
      → mapped_residual p c z (y * c.shape.columns + x) ≡ mapped_residual p d z (y * c.shape.columns + x)
  residual_there y x row column =
      residual_near p c d z band some (wide_of p c lawful shape) (y * c.shape.columns + x) (digits_lt row column) (agree_near (suc (y * c.shape.columns + x)))

  row_there : (y : ℕ) → y < c.shape.rows → row_of p c (z ∷ []) y ≡ row_of p d (z ∷ []) y
  unfolding row_of
  row_there y row =
      let columns : c.shape.columns ≡ d.shape.columns = ap (λ (s : Sizes). s.columns) planes.alike.shape in
      same_lists (λ x. mapped_residual p c z (y * c.shape.columns + x) ∷ []) (λ x. mapped_residual p d z (y * c.shape.columns + x) ∷ []) 0 0 c.shape.columns
      (λ i within. ap (λ v. v ∷ []) (residual_there y (0 + i) row (omega (arith, within))))
      ∙ ap (λ n. flat_map (λ x. mapped_residual p d z (y * n + x) ∷ []) (upto n)) columns

  pub rows_near : rows_of p c (z ∷ []) ≡ rows_of p d (z ∷ [])
  unfolding rows_of
  rows_near =
      same_lists (λ y. row_of p c (z ∷ []) y) (λ y. row_of p d (z ∷ []) y) 0 0 c.shape.rows (λ i within. row_there (0 + i) (omega (arith, within)))
      ∙ ap (λ (s : Sizes). flat_map (λ y. row_of p d (z ∷ []) y) (upto s.rows)) planes.alike.shape
