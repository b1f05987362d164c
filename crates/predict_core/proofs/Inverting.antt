-- An image with another sample at a place is predicted there as before.
use Rattle.std.proofs.Common.{◌≡◌, ◌+◌, ◌*◌, ◌<◌, ◌≤◌, ℕ, suc, ℤ, pos, ◌-ℤ◌, ◌*ℤ◌, int_lt, false, List, length, arith, refl, ◌∙◌, sym, ap, ap₂, subst}
use Rattle.std.proofs.lemmas.List.{get_or-set_same}
use Rattle.std.proofs.Math.Arith.{digits_lt}
use Rattle.header_bits.specs.declared.params.Params.{Params}
use Rattle.cube_core.specs.declared.order.Place.{Place}
use Rattle.cube_core.specs.Shape.{sample_count}
use Rattle.cube_core.specs.Image.{Image, IsPlace, sample_at, index_in, put}
use Rattle.cube_core.proofs.Bounds.{index_below}
use Rattle.cube_core.proofs.Images.{put_other}
use Rattle.sample_prediction.specs.declared.predictor.Predictor.{Predictor}
use Rattle.sample_prediction.specs.Predictor.{predictor_of}
use Rattle.sample_prediction.specs.Differences.{difference_vector}
use Rattle.sample_prediction.specs.Weights.{step_exponent, updated_weights}
use Rattle.sample_prediction.specs.Prediction.{scaled_there, next_weights, weight_vector, first_scaled, scaled_prediction}
use Rattle.sample_prediction.specs.Residual.{mapped, mapped_residual}
use Rattle.predict_core.specs.Precedence.{Agree}
use Rattle.predict_core.proofs.Frame.{agree_less, weights_same, scaled_same, first_scaled_same, vector_same, scaled_there_same}
use Rattle.predict_core.proofs.Following.{mapped_at, next_is, follows_first, follows_by, residual_by, first_residual_is}

module _ (c : Image) (z y x : ℕ) (v : ℤ) (place : IsPlace c.shape z y x) (whole : length c.samples ≡ sample_count c.shape) where
  pub sample_put : sample_at (put c z y x v) z y x ≡ v
  unfolding sample_at
  sample_put =
      get_or-set_same c.samples (index_in c.shape.columns c.shape.rows z y x) v (pos 0)
      (rw whole (index_below c.shape.columns c.shape.rows c.shape.bands z y x place.band place.row place.column))

  -- the samples at all other places stay
  pub sample_put_beside : (z' y' x' : ℕ) → IsPlace c.shape z' y' x' → (z' ≡ z → y' ≡ y → x' ≡ x → ⊥) → sample_at c z' y' x' ≡ sample_at (put c z y x v) z' y' x'
  sample_put_beside z' y' x' q apart =
      put_other c (record { z = z; y = y; x = x }) (record { z = z'; y = y'; x = x' }) v place q
      (λ e. apart (ap (λ (r : Place). r.z) (sym e)) (ap (λ (r : Place). r.y) (sym e)) (ap (λ (r : Place). r.x) (sym e)))

  pub agree_put : Agree c (put c z y x v) z (y * c.shape.columns + x) (suc (y * c.shape.columns + x))
  agree_put = record {
    alike = record { shape = refl; kind = refl };
    own = λ y' x' q l. sample_put_beside z y' x' q (λ e f g. let row = ap (λ (n : ℕ). n * c.shape.columns) f in omega (arith, row, l, g));
    under = λ z' y' x' q b l. sample_put_beside z' y' x' q (λ e f g. omega (arith, b, e));
  }

  module _ (p : Predictor) (wide : p.column ≡ false → 2 ≤ c.shape.columns) where
    some : 0 < c.shape.columns
    some = let q = place.column in omega arith

    rows : 0 < c.shape.rows
    rows = let q = place.row in omega arith

    vector_put : 0 < y + x → difference_vector p c z y x ≡ difference_vector p (put c z y x v) z y x
    vector_put later = vector_same p c (put c z y x v) z y x place later wide agree_put

    -- the prediction at the place does not read the sample there
    pub scaled_put : 0 < y + x → (ws : List ℤ) → scaled_there p c z y x ws ≡ scaled_there p (put c z y x v) z y x ws
    scaled_put later ws = scaled_there_same p c (put c z y x v) z y x place later wide agree_put ws

    pub first_put : first_scaled p c z ≡ first_scaled p (put c z y x v) z
    first_put = first_scaled_same p c (put c z y x v) z place.band some rows (agree_less 0 1 (omega arith) (omega arith) agree_put)

    -- and the weights move after the new sample
    pub moved_put : (t : ℕ) (ws new : List ℤ) (scaled : ℤ) → 0 < y + x → t ≡ y * c.shape.columns + x → scaled ≡ scaled_there p c z y x ws
        → new ≡ updated_weights p.omega (step_exponent p c.shape.columns c.kind.bits t) (int_lt (pos 2 *ℤ v -ℤ scaled) (pos 0)) ws
        (difference_vector p c z y x)
        → new ≡ next_weights p (put c z y x v) z t ws
    moved_put t ws new scaled later at b e =
        next_is p (put c z y x v) z t y x ws new scaled v at place.column (b ∙ scaled_put later ws) (sym sample_put)
        (e ∙ ap (updated_weights p.omega (step_exponent p c.shape.columns c.kind.bits t) (int_lt (pos 2 *ℤ v -ℤ scaled) (pos 0)) ws) (vector_put later))

  -- the residual at the place is that of the new sample
  pub put_residual : (p : Params) → (p.column ≡ false → 2 ≤ c.shape.columns)
      → mapped_residual p (put c z y x v) z (y * c.shape.columns + x) ≡ mapped c.kind (scaled_prediction p c z (y * c.shape.columns + x)) v
  put_residual p wide =
      let scaled = scaled_same p c (put c z y x v) z place.band (let q = place.column in omega arith) wide _ (digits_lt place.row place.column) agree_put in
      mapped_at p (put c z y x v) (record { z = z; y = y; x = x }) _ refl place.column ∙ ap₂ (mapped c.kind) (sym scaled) sample_put

-- a band that follows an image follows it with the new sample
module _ (p : Params) (made : Predictor) (c : Image) (z y x t : ℕ) (v : ℤ) (ws : List ℤ) (place : IsPlace c.shape z y x)
    (whole : length c.samples ≡ sample_count c.shape)
    (wide : p.column ≡ false → 2 ≤ c.shape.columns) (is : made ≡ predictor_of p) (at : t ≡ y * c.shape.columns + x) (follows : ws ≡ weight_vector p c z t) where
  within : t ≤ c.shape.rows * c.shape.columns
  within = let l : y * c.shape.columns + x < c.shape.rows * c.shape.columns = digits_lt place.row place.column in omega (arith, l)

  follows_put : ws ≡ weight_vector p (put c z y x v) z t
  follows_put = follows ∙ weights_same p c (put c z y x v) z place.band (let q = place.column in omega arith) wide t within
      (agree_less t t (omega (arith, at)) (omega (arith, at)) (agree_put c z y x v place whole))

  pub residual_put : 0 < t → (n : ℕ) → mapped c.kind (scaled_there made (put c z y x v) z y x ws) v ≡ n → mapped_residual p (put c z y x v) z t ≡ n
  residual_put later n e =
      sym (residual_by p made (put c z y x v) z t y x ws is later at place.column follows_put n
      (sym e ∙ ap (λ s. mapped c.kind (scaled_there made (put c z y x v) z y x ws) s) (sym (sample_put c z y x v place whole))))

  pub weights_put : 0 < t → (new : List ℤ) → new ≡ next_weights made (put c z y x v) z t ws → new ≡ weight_vector p (put c z y x v) z (t + 1)
  weights_put later new e = follows_by p made (put c z y x v) z t y x ws is later at place.column follows_put new e

  pub first_residual_put : t ≡ 0 → (n : ℕ) → mapped c.kind (first_scaled made (put c z y x v) z) v ≡ n → mapped_residual p (put c z y x v) z 0 ≡ n
  first_residual_put zero_at n e =
      sym (first_residual_is p (put c z y x v) z y x n (sym zero_at ∙ at) place.column
      (sym e ∙ ap (λ q. mapped c.kind (first_scaled q (put c z y x v) z) v) is
      ∙ ap (λ s. mapped c.kind (first_scaled (predictor_of p) (put c z y x v) z) s) (sym (sample_put c z y x v place whole))))

  pub first_weights_put : t ≡ 0 → ws ≡ weight_vector p (put c z y x v) z (0 + 1)
  first_weights_put zero_at = follows_first p (put c z y x v) z ws (subst (λ n. ws ≡ weight_vector p (put c z y x v) z n) zero_at follows_put)
