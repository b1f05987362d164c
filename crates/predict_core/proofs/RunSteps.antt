-- Residuals of a run, one after another.
use Rattle.std.proofs.Common.{◌≡◌, ℕ, zero, suc, ◌+◌, ◌<◌, List, [], ◌∷◌, ◌++◌, map, length, take, get_or, set, arith, refl, sym, ap, ◌∙◌, add-one, inl, inr}
use Rattle.std.proofs.Common.{get_or-set_same, get_or-set_other}
use Rattle.std.proofs.Math.Seq.{take-suc-set}
use Rattle.std.proofs.lemmas.Bool.{cases_eq}
use Rattle.std.proofs.lemmas.List.{get_or-map}
use Rattle.cube_core.specs.Image.{Image}
use Rattle.cube_core.specs.Order.{from}
use Rattle.cube_core.proofs.Lists.{length-from, get_or-from}
use Rattle.header_bits.specs.declared.params.Params.{Params}
use Rattle.predict_core.specs.Following.{PredictorState, MovesOn, MovesBy}
use Rattle.sample_prediction.specs.Residual.{mapped_residual, run_residuals}

pub one_more : (f : ℕ → ℕ) (a n : ℕ) → map f (from a (suc n)) ≡ map f (from a n) ++ f (a + n) ∷ []
one_more f a zero = ap (λ k. f k ∷ []) (omega arith)
one_more f a (suc n) = ap (λ ks. f a ∷ ks) (one_more f (suc a) n ∙ ap (λ k. map f (from (suc a) n) ++ f k ∷ []) (omega arith))

pub run_at : (p : Params) (c : Image) (z t n i : ℕ) → i < n → get_or (run_residuals p c z t n) i 0 ≡ mapped_residual p c z (t + i)
run_at p c z t n i lt = get_or-map (mapped_residual p c z) (from t n) i 0 0 (rw length-from lt) ∙ ap (mapped_residual p c z) (get_or-from t n i 0 lt)

pub run_next : (p : Params) (c : Image) (z t i : ℕ) (rs : List ℕ) (r : ℕ) → i < length rs → r ≡ mapped_residual p c z (t + i)
    → take i rs ≡ run_residuals p c z t i
    → take (i + 1) (set rs i r) ≡ run_residuals p c z t (i + 1)
run_next p c z t i rs r h e b = rw (add-one, take-suc-set rs i r h, b, e) (sym (one_more (mapped_residual p c z) t i))

pub bound_next : (n i : ℕ) (rs : List ℕ) (r : ℕ) → i < length rs → r < n → ((k : ℕ) → k < i → get_or rs k 0 < n) → (k : ℕ) → k < i + 1
    → get_or (set rs i r) k 0 < n
bound_next n i rs r h l b k m =
    elim (cases_eq k i) [ inl e ↦ rw (e, get_or-set_same rs i r 0 h) l | inr d ↦ rw (get_or-set_other rs i k r 0 d) (b k (omega arith)) ]

pub moved_none : (b : PredictorState) → MovesBy 0 b b
moved_none b = record { predictor = refl; shape = refl; kind = refl; band = refl; t = omega arith }

pub moved_next : (i : ℕ) (a b d : PredictorState) → MovesBy i a b → MovesOn b d → MovesBy (i + 1) a d
moved_next i a b d m n = record {
  predictor = n.predictor ∙ m.predictor;
  shape = n.shape ∙ m.shape;
  kind = n.kind ∙ m.kind;
  band = n.band ∙ m.band;
  t = omega (arith, m.t, n.t);
}
