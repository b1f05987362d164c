-- The residuals of a whole run, from its predictions.
use Rattle.std.proofs.Common.{◌≡◌, ℕ, zero, suc, ◌+◌, ◌*◌, ◌<◌, ℤ, List, [], ◌∷◌, map, length, take, get_or, set, refl, sym, ap, ◌∙◌, arith, inl, inr, length-set}
use Rattle.std.proofs.Common.{get_or-set_same, get_or-set_other}
use Rattle.std.proofs.lemmas.Bool.{cases_eq}
use Rattle.header_bits.specs.declared.params.Params.{Params}
use Rattle.cube_core.specs.Image.{Image, sample_at}
use Rattle.cube_core.specs.Order.{from}
use Rattle.sample_prediction.specs.Chain.{AreWeightsAt}
use Rattle.sample_prediction.specs.declared.predictor.Predictor.{Predictor}
use Rattle.sample_prediction.specs.Predictor.{predictor_of}
use Rattle.sample_prediction.specs.Prediction.{first_scaled, scaled_prediction, weight_vector}
use Rattle.sample_prediction.specs.Residual.{mapped, mapped_residual, run_residuals}
use Rattle.predict_core.proofs.Following.{mapped_at as residual_of, follows_first, first_residual_is}

-- a first entry may be written before a list is cut or after
pub set_taken : (n : ℕ) (xs : List ℕ) (r : ℕ) → take n (set xs 0 r) ≡ set (take n xs) 0 r
set_taken zero xs r = refl
set_taken (suc n) [] r = refl
set_taken (suc n) (x ∷ xs) r = refl

-- a list is told by its entries
listed : (f : ℕ → ℕ) (t : ℕ) (rs : List ℕ) → ((i : ℕ) → i < length rs → get_or rs i 0 ≡ f (t + i)) → rs ≡ map f (from t (length rs))
listed f t [] h = refl
listed f t (r ∷ rs) h =
    let head : r ≡ f t = h 0 (omega arith) ∙ ap f (omega arith) in
    let rest : rs ≡ map f (from (suc t) (length rs)) = listed f (suc t) rs (λ i l. h (suc i) (omega (arith, l)) ∙ ap f (omega arith)) in
    ap (λ k. k ∷ rs) head ∙ ap (λ ks. f t ∷ ks) rest

pub run_is : (p : Params) (c : Image) (z t n : ℕ) (rs : List ℕ) → length rs ≡ n → ((i : ℕ) → i < length rs → get_or rs i 0 ≡ mapped_residual p c z (t + i))
    → rs ≡ run_residuals p c z t n
run_is p c z t n rs l h = listed (mapped_residual p c z) t rs h ∙ ap (λ m. map (mapped_residual p c z) (from t m)) l

-- a residual from its scaled prediction
pub mapped_at : (p : Params) (c : Image) (z y x i r : ℕ) (s : ℤ) → x + i < c.shape.columns → scaled_prediction p c z (y * c.shape.columns + (x + i)) ≡ s
    → r ≡ mapped c.kind s (sample_at c z y (x + i))
    → r ≡ mapped_residual p c z (y * c.shape.columns + x + i)
mapped_at p c z y x i r s inside e m =
    m ∙ ap (λ v. mapped c.kind v (sample_at c z y (x + i))) (sym e) ∙ sym (residual_of p c (record { z = z; y = y; x = x + i }) _ refl inside)
    ∙ ap (mapped_residual p c z) (place y c.shape.columns)
  where
    place : (y columns : ℕ) → y * columns + (x + i) ≡ y * columns + x + i
    place y columns = omega arith

first_place : (columns y x : ℕ) → y + x ≡ 0 → y * columns + x ≡ 0
first_place columns zero x e = omega (arith, e)
first_place columns (suc y) x e = absurd (omega (arith, e))

second_place : (columns y x : ℕ) → y + x ≡ 0 → y * columns + (x + 1) ≡ 0 + 1
second_place columns zero x e = omega (arith, e)
second_place columns (suc y) x e = absurd (omega (arith, e))

-- the first place of a band is followed by the weights of the start
pub started : (p : Params) (made : Predictor) (c : Image) (z y x : ℕ) (ws : List ℤ) → y + x ≡ 0 → AreWeightsAt p made c z (y * c.shape.columns + x) ws
    → AreWeightsAt p made c z (y * c.shape.columns + (x + 1)) ws
started p made c z y x ws e f = record {
  predictor = f.predictor;
  weights = follows_first p c z ws (f.weights ∙ ap (weight_vector p c z) (first_place c.shape.columns y x e))
      ∙ ap (weight_vector p c z) (sym (second_place c.shape.columns y x e));
}

-- its residual, and those after it
pub with_first : (p : Params) (made : Predictor) (c : Image) (z y x r : ℕ) (rs : List ℕ) → made ≡ predictor_of p → y + x ≡ 0 → x < c.shape.columns
    → 0 < length rs → r ≡ mapped c.kind (first_scaled made c z) (sample_at c z y x)
    → ((i : ℕ) → i < length rs → 0 < i → get_or rs i 0 ≡ mapped_residual p c z (y * c.shape.columns + x + i))
    → (i : ℕ) → i < length (set rs 0 r) → get_or (set rs 0 r) i 0 ≡ mapped_residual p c z (y * c.shape.columns + x + i)
with_first p made c z y x r rs is e inside some m h i l =
    elim (cases_eq i 0) [
      | inl s ↦ ap (λ k. get_or (set rs 0 r) k 0) s ∙ get_or-set_same rs 0 r 0 some ∙ first ∙ ap (mapped_residual p c z) (here s)
      | inr n ↦ get_or-set_other rs 0 i r 0 n ∙ h i (rw length-set at l) (omega (arith, n))
    ]
  where
    first : r ≡ mapped_residual p c z 0
    first =
        first_residual_is p c z y x r (sym (first_place c.shape.columns y x e)) inside (m ∙ ap (λ q. mapped c.kind (first_scaled q c z) (sample_at c z y x)) is)

    here : i ≡ 0 → 0 ≡ y * c.shape.columns + x + i
    here s = let f = first_place c.shape.columns y x e in omega (arith, f, s)
