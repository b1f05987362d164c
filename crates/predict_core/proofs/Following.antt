-- How a band's predictor follows an image.
use Rattle.std.proofs.Common.{◌≡◌, ◌+◌, ◌*◌, ◌/◌, ◌%◌, ◌<◌, ℕ, zero, suc, ℤ, pos, ◌-ℤ◌, ◌*ℤ◌, int_lt, List, arith, refl, ◌∙◌, ap, add-one}
use Rattle.std.proofs.lemmas.Nat.{div-mul-add, mod-mul-add}
use Rattle.header_bits.specs.declared.params.Params.{Params}
use Rattle.cube_core.specs.declared.order.Place.{Place}
use Rattle.cube_core.specs.Image.{Image, sample_at}
use Rattle.sample_prediction.specs.declared.predictor.Predictor.{Predictor}
use Rattle.sample_prediction.specs.Predictor.{predictor_of}
use Rattle.sample_prediction.specs.Differences.{difference_vector}
use Rattle.sample_prediction.specs.Weights.{step_exponent, updated_weights}
use Rattle.sample_prediction.specs.Prediction.{scaled_prediction, scaled_there, next_weights, weight_vector, first_scaled}
use Rattle.sample_prediction.specs.Residual.{mapped, mapped_residual}

-- the row and the column of a place
pub row_is : (columns t y x : ℕ) → t ≡ y * columns + x → x < columns → t / columns ≡ y
row_is columns t y x e h = rw e (div-mul-add y columns x h)

pub column_is : (columns t y x : ℕ) → t ≡ y * columns + x → x < columns → t % columns ≡ x
column_is columns t y x e h = rw e (mod-mul-add y columns x h)

pub mapped_at : (p : Params) (c : Image) (q : Place) (t : ℕ) → t ≡ q.y * c.shape.columns + q.x → q.x < c.shape.columns
    → mapped_residual p c q.z t ≡ mapped c.kind (scaled_prediction p c q.z t) (sample_at c q.z q.y q.x)
unfolding mapped_residual
mapped_at p c q t e lt = rw (row_is _ _ _ _ e lt, column_is _ _ _ _ e lt) refl

pub next_is : (p : Predictor) (c : Image) (z t y x : ℕ) (ws new : List ℤ) (scaled sample : ℤ) → t ≡ y * c.shape.columns + x → x < c.shape.columns
    → scaled ≡ scaled_there p c z y x ws → sample ≡ sample_at c z y x
    → new ≡ updated_weights p.omega (step_exponent p c.shape.columns c.kind.bits t) (int_lt (pos 2 *ℤ sample -ℤ scaled) (pos 0)) ws
    (difference_vector p c z y x)
    → new ≡ next_weights p c z t ws
unfolding next_weights
next_is p c z t y x ws new scaled sample e h b d f =
    let r = row_is c.shape.columns t y x e h in let q = column_is c.shape.columns t y x e h in f ∙ rw (r, q, b, d) refl

-- at a place that is not the first: the weights after it, and its residual
pub follows_next : (p : Params) (c : Image) (z t : ℕ) (ws new : List ℤ) → 0 < t → ws ≡ weight_vector p c z t → new ≡ next_weights (predictor_of p) c z t ws
    → new ≡ weight_vector p c z (t + 1)
unfolding weight_vector
follows_next p c z zero ws new h e n = absurd (omega arith)
follows_next p c z (suc t) ws new h e n = rw add-one (n ∙ rw e refl)

pub follows_first : (p : Params) (c : Image) (z : ℕ) (ws : List ℤ) → ws ≡ weight_vector p c z 0 → ws ≡ weight_vector p c z (0 + 1)
unfolding weight_vector
follows_first p c z ws e = e

pub residual_is : (p : Params) (c : Image) (z t y x r : ℕ) (ws : List ℤ) → 0 < t → t ≡ y * c.shape.columns + x → x < c.shape.columns
    → ws ≡ weight_vector p c z t
    → r ≡ mapped c.kind (scaled_there (predictor_of p) c z y x ws) (sample_at c z y x) → r ≡ mapped_residual p c z t
unfolding mapped_residual scaled_prediction
residual_is p c z zero y x r ws l e h w m = absurd (omega arith)
residual_is p c z (suc t) y x r ws l e h w m = m ∙ rw (row_is c.shape.columns (suc t) y x e h, column_is c.shape.columns (suc t) y x e h, w) refl

pub first_residual_is : (p : Params) (c : Image) (z y x r : ℕ) → 0 ≡ y * c.shape.columns + x → x < c.shape.columns
    → r ≡ mapped c.kind (first_scaled (predictor_of p) c z) (sample_at c z y x) → r ≡ mapped_residual p c z 0
unfolding mapped_residual scaled_prediction
first_residual_is p c z y x r e h m = m ∙ rw (row_is c.shape.columns 0 y x e h, column_is c.shape.columns 0 y x e h) refl

-- the same for a band that was made for the parameters
module _ (p : Params) (made : Predictor) (c : Image) (z t y x : ℕ) (ws : List ℤ) (is : made ≡ predictor_of p)
    (later : 0 < t) (at : t ≡ y * c.shape.columns + x) (inside : x < c.shape.columns) (follows : ws ≡ weight_vector p c z t) where
  pub residual_by : (r : ℕ) → r ≡ mapped c.kind (scaled_there made c z y x ws) (sample_at c z y x) → r ≡ mapped_residual p c z t
  residual_by r e = residual_is p c z t y x r ws later at inside follows (e ∙ ap (λ q. mapped c.kind (scaled_there q c z y x ws) (sample_at c z y x)) is)

  pub follows_by : (new : List ℤ) → new ≡ next_weights made c z t ws → new ≡ weight_vector p c z (t + 1)
  follows_by new e = follows_next p c z t ws new later follows (e ∙ ap (λ q. next_weights q c z t ws) is)
