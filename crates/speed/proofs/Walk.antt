-- The way back along the encoding order: numbers that are the residuals of the places gone by.
use Rattle.std.proofs.Common.{◌≡◌, ◌+◌, ◌*◌, ◌<◌, ℕ, ℤ, List, [], ◌∷◌, ◌++◌, length, take, get_or, Some, refl, sym, ap, ◌∙◌, arith}
use Rattle.std.proofs.lemmas.List.{take_more, take_all}
use Rattle.std.specs.List.{slice_get}
use Rattle.cube_core.specs.declared.order.Place.{Place}
use Rattle.cube_core.specs.Shape.{Sizes, sample_count}
use Rattle.cube_core.specs.Image.{Image, put}
use Rattle.cube_core.specs.Order.{IsOrder, places}
use Rattle.cube_core.proofs.Orders.{length-places}
use Rattle.header_bits.specs.declared.params.Params.{Params}
use Rattle.header_bits.specs.Lawful.{IsLawful}
use Rattle.predict_core.specs.Following.{PredictorState}
use Rattle.sample_prediction.specs.Residual.{mapped_residual, residuals}
use Rattle.predict_core.specs.Walked.{residuals_at}
use Rattle.predict_core.proofs.Walking.{IsOnWalk, next_goes, band_here, gone_by, gone_count, residuals_push, residuals_whole}
use Rattle.predict_core.proofs.Kept.{residuals_kept}

-- the first i numbers are the residuals of the places gone by
pub record AreResiduals (p : Params) (c : Image) (left : List Place) (i : ℕ) (numbers : List ℕ) : Type 0 where
  pub count : i ≡ gone_count p left
  pub gone : residuals_at p c (gone_by p left) ≡ take i numbers

pub none_yet : (p : Params) (c : Image) (numbers : List ℕ) → IsOrder p.shape p.order → AreResiduals p c (places p.shape p.order) 0 numbers
none_yet p c numbers lawful =
    let none : gone_count p (places p.shape p.order) ≡ 0 = omega (arith, length-places p.shape p.order lawful) in
    record { count = sym none; gone = rw none refl }

-- all places have gone by
pub all_residuals : (p : Params) (c : Image) (i : ℕ) (numbers : List ℕ) → IsOrder p.shape p.order → c.shape ≡ p.shape → length numbers ≡ sample_count p.shape
    → AreResiduals p c [] i numbers → residuals p c ≡ numbers
all_residuals p c i numbers lawful shape long known =
    sym (residuals_whole p c lawful shape) ∙ known.gone ∙ take_all i numbers (omega (arith, known.count, long))

-- ---- the sample of the next residual is put

pub read_more : (p : Params) (c : Image) (left rest : List Place) (bands : List PredictorState) (q : Place) (b : PredictorState) (numbers : List ℕ) (i : ℕ) (v : ℤ)
    → IsLawful p → c.shape ≡ p.shape → IsOnWalk p c left bands → left ≡ q ∷ rest → slice_get bands q.z ≡ Some b → AreResiduals p c left i numbers
    → i < length numbers
    → mapped_residual p (put c q.z q.y q.x v) q.z b.t ≡ get_or numbers i 0 → AreResiduals p (put c q.z q.y q.x v) rest (i + 1) numbers
read_more p c left rest bands q b numbers i v lawful shape walk is band known lt value =
    let next = next_goes p q left rest lawful.order walk.rest is in
    let mine = band_here p c (gone_count p left) bands q b lawful.order walk.along next.stands band in
    let place : b.t ≡ q.y * c.shape.columns + q.x = mine.1 ∙ ap (λ (s : Sizes). q.y * s.columns + q.x) (sym shape) in
    let last : mapped_residual p (put c q.z q.y q.x v) q.z (q.y * c.shape.columns + q.x) ≡ get_or numbers i 0 =
    ap (mapped_residual p (put c q.z q.y q.x v) q.z) (sym place) ∙ value in
    record {
      count = omega (arith, known.count, next.count);
      gone = ap (residuals_at p (put c q.z q.y q.x v)) next.gone
          ∙ residuals_push p (put c q.z q.y q.x v) (gone_by p left) q
          ∙ ap (λ (n : ℕ). residuals_at p (put c q.z q.y q.x v) (gone_by p left) ++ n ∷ []) last
          ∙ ap (λ (ns : List ℕ). ns ++ get_or numbers i 0 ∷ []) (sym (residuals_kept p c q v left lawful shape next.stands) ∙ known.gone)
          ∙ sym (take_more numbers i 0 lt);
    }
