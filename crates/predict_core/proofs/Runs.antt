-- The chain of a run, place after place.
use Rattle.std.proofs.Common.{◌≡◌, ℕ, zero, suc, ◌+◌, ◌-◌, ◌*◌, ◌<◌, ◌≤◌, ℤ, pos, List, ◌∷◌, ◌++◌, length, take, replicate, get_or, set, append_assoc, refl}
use Rattle.std.proofs.Common.{sym, ap, ◌∙◌, arith, inl, inr, get_or-set_same, get_or-set_other}
use Rattle.std.proofs.lemmas.Bool.{cases_eq}
use Rattle.header_bits.specs.declared.params.Params.{Params}
use Rattle.cube_core.specs.Image.{Image}
use Rattle.sample_prediction.specs.Chain.{scaled_by_difference, AreWeightsAt}
use Rattle.sample_prediction.specs.declared.predictor.Predictor.{Predictor}
use Rattle.sample_prediction.specs.LocalSum.{local_sum}
use Rattle.sample_prediction.specs.Weights.{step_exponent}
use Rattle.sample_prediction.specs.Prediction.{scaled_there, scaled_prediction, next_weights, weight_vector}
use Rattle.predict_core.proofs.Following.{row_is, column_is, follows_by}
use Rattle.sample_prediction.proofs.Prefixes.{take_padded}

zeros_joined : (k m : ℕ) → replicate k (pos 0) ++ replicate m (pos 0) ≡ replicate (k + m) (pos 0)
zeros_joined zero m = let e : 0 + m ≡ m = omega arith in rw e refl
zeros_joined (suc k) m = let e : suc k + m ≡ suc (k + m) = omega arith in rw e (ap (λ zs. pos 0 ∷ zs) (zeros_joined k m))

-- components and zeros, gathered in a room of 18
pub gathered_is : (us components differences : List ℤ) (n k : ℕ) → length us ≡ n → n ≤ 18 → components ≡ us ++ replicate k (pos 0)
    → differences ≡ take 18 (components ++ replicate 18 (pos 0)) → differences ≡ us ++ replicate (18 - n) (pos 0)
gathered_is us components differences n k l h e d =
    d ∙ ap (λ xs. take 18 (xs ++ replicate 18 (pos 0))) e ∙ ap (take 18) (append_assoc us (replicate k (pos 0)) (replicate 18 (pos 0))
    ∙ ap (λ zs. us ++ zs) (zeros_joined k 18)) ∙ take_padded us n 18 (k + 18) l h (omega arith)

-- what holds of each entry from the first on holds of one more that is written
pub written_place : (P : ℕ → ℤ → Type 0) (first i : ℕ) (out : List ℤ) (v : ℤ) → i < length out → P i v
    → ((k : ℕ) → first ≤ k → k < i → P k (get_or out k (pos 0))) → (k : ℕ) → first ≤ k → k < i + 1 → P k (get_or (set out i v) k (pos 0))
written_place P first i out v h e b k l m =
    elim (cases_eq k i) [
      | inl s ↦ rw (s, get_or-set_same out i v (pos 0) h) e
      | inr n ↦ rw (get_or-set_other out i k v (pos 0) n) (b k l (omega arith))
    ]

pub later_place : (columns y x : ℕ) → 0 < y + x → x < columns → 0 < y * columns + x
later_place columns zero x h l = omega arith
later_place columns (suc y) x h l = omega arith

-- a scaled prediction by the weights there
scaled_is : (p : Params) (c : Image) (z t y x : ℕ) (ws : List ℤ) (made : Predictor) → 0 < t → t ≡ y * c.shape.columns + x → x < c.shape.columns
    → AreWeightsAt p made c z t ws → scaled_prediction p c z t ≡ scaled_there made c z y x ws
unfolding scaled_prediction
scaled_is p c z zero y x ws made l e h w = absurd (omega arith)
scaled_is p c z (suc t) y x ws made l e h w =
    rw (row_is c.shape.columns (suc t) y x e h, column_is c.shape.columns (suc t) y x e h, w.predictor, w.weights) refl

module _ (p : Params) (made : Predictor) (c : Image) (z y x i : ℕ) (ws : List ℤ)
    (later : 0 < y + (x + i)) (inside : x + i < c.shape.columns) (follows : AreWeightsAt p made c z (y * c.shape.columns + (x + i)) ws) where
  pub weights_next : (new : List ℤ) → new ≡ next_weights made c z (y * c.shape.columns + (x + i)) ws
      → new ≡ weight_vector p c z (y * c.shape.columns + (x + (i + 1)))
  weights_next new e =
      follows_by p made c z (y * c.shape.columns + (x + i)) y (x + i) ws follows.predictor
      (later_place c.shape.columns y (x + i) later inside) refl inside follows.weights new e
      ∙ ap (weight_vector p c z) (place y c.shape.columns)
    where
      place : (y columns : ℕ) → y * columns + (x + i) + 1 ≡ y * columns + (x + (i + 1))
      place y columns = omega arith

  pub part_is : (part : ℤ) → scaled_there made c z y (x + i) ws ≡ scaled_by_difference c.kind part (local_sum made c z y (x + i))
      → scaled_prediction p c z (y * c.shape.columns + (x + i)) ≡ scaled_by_difference c.kind part (local_sum made c z y (x + i))
  part_is part e =
      scaled_is p c z (y * c.shape.columns + (x + i)) y (x + i) ws made (later_place c.shape.columns y (x + i) later inside) refl inside follows ∙ e

-- ---- from piece to piece

pub piece_exponent : (p : Predictor) (e : ℤ) (columns bits t columns' bits' t' k : ℕ) → e ≡ step_exponent p columns bits t
    → step_exponent p columns bits (t + k) ≡ step_exponent p columns bits t → columns' ≡ columns → bits' ≡ bits → t + k ≡ t'
    → e ≡ step_exponent p columns' bits' t'
piece_exponent p e columns bits t columns' bits' t' k a b same_columns same_bits place = rw (same_columns, same_bits, ← place) (a ∙ sym b)
