-- A run whose samples are put into an image one after another.
use Rattle.std.proofs.Common.{◌≡◌, ℕ, zero, suc, ◌+◌, ◌*◌, ◌<◌, ◌≤◌, ℤ, false, List, [], ◌∷◌, ◌++◌, map, length, take}
use Rattle.std.proofs.Common.{get_or, add-one, refl, sym, ap, ap₂, ◌∙◌, arith}
use Rattle.std.proofs.Math.Arith.{digits_lt}
use Rattle.std.proofs.Math.Seq.{take-suc}
use Rattle.cube_core.specs.Shape.{sample_count}
use Rattle.cube_core.specs.Image.{Image, IsPlace, put}
use Rattle.cube_core.specs.Order.{from}
use Rattle.header_bits.specs.declared.params.Params.{Params}
use Rattle.sample_prediction.specs.Residual.{mapped_residual, run_residuals}
use Rattle.predict_core.specs.RunPlaces.{AreAlikeBeside}
use Rattle.predict_core.proofs.Frame.{agree_less, residual_same}
use Rattle.predict_core.proofs.Inverting.{sample_put_beside, agree_put}
use Rattle.predict_core.proofs.RunSteps.{one_more}

pub beside_none : (c : Image) (z y x : ℕ) → AreAlikeBeside c c z y x 0
beside_none c z y x = record { alike = record { shape = refl; kind = refl }; samples = λ z' y' x' q out. refl }

pub beside_next : (c d : Image) (z y x i : ℕ) (v : ℤ) → IsPlace d.shape z y (x + i) → length d.samples ≡ sample_count d.shape → AreAlikeBeside c d z y x i
    → AreAlikeBeside c (put d z y (x + i) v) z y x (i + 1)
beside_next c d z y x i v place whole a = record {
  alike = record { shape = a.alike.shape; kind = a.alike.kind };
  samples = λ z' y' x' q out.
      a.samples z' y' x' q (λ e f l. let o = out e f l in omega (arith, o))
      ∙ sample_put_beside d z y (x + i) v place whole z' y' x' (rw a.alike.shape at q) (λ e f g. let o = out e f (omega (arith, g)) in omega (arith, o, g));
}

-- ---- residuals of the places before stay

module _ (p : Params) (c : Image) (z y x : ℕ) (v : ℤ) (place : IsPlace c.shape z y x) (whole : length c.samples ≡ sample_count c.shape)
    (wide : p.column ≡ false → 2 ≤ c.shape.columns) where
  residual_kept : (k : ℕ) → k < x → mapped_residual p c z (y * c.shape.columns + k) ≡ mapped_residual p (put c z y x v) z (y * c.shape.columns + k)
  residual_kept k l =
      let within = digits_lt place.row (let inside : k < c.shape.columns = omega (arith, place.column, l) in inside) in
      residual_same p c (put c z y x v) z place.band (let q = place.column in omega arith) wide _ within
      (agree_less _ _ (omega (arith, l)) (omega (arith, l)) (agree_put c z y x v place whole))

same_list : (f g : ℕ → ℕ) (a n : ℕ) → ((k : ℕ) → k < n → f (a + k) ≡ g (a + k)) → map f (from a n) ≡ map g (from a n)
same_list f g a zero h = refl
same_list f g a (suc n) h =
    let none : a + 0 ≡ a = omega arith in ap₂ (λ r rs. r ∷ rs) (rw none at (h 0 (omega arith)))
    (same_list f g (suc a) n (λ k l. let e : a + suc k ≡ suc a + k = omega arith in rw e at (h (suc k) (omega (arith, l)))))

pub residuals_next : (p : Params) (d : Image) (z y x i : ℕ) (v : ℤ) (deltas : List ℕ) → IsPlace d.shape z y (x + i)
    → length d.samples ≡ sample_count d.shape → (p.column ≡ false → 2 ≤ d.shape.columns) → i < length deltas
    → run_residuals p d z (y * d.shape.columns + x) i ≡ take i deltas
    → mapped_residual p (put d z y (x + i) v) z (y * d.shape.columns + x + i) ≡ get_or deltas i 0
    → run_residuals p (put d z y (x + i) v) z (y * d.shape.columns + x) (i + 1) ≡ take (i + 1) deltas
residuals_next p d z y x i v deltas place whole wide l before e =
    let more : i + 1 ≡ suc i = omega arith in ap (λ n. run_residuals p (put d z y (x + i) v) z (y * d.shape.columns + x) n) more
    ∙ one_more (mapped_residual p (put d z y (x + i) v) z) (y * d.shape.columns + x) i
    ∙ ap₂ (λ rs r. rs ++ r ∷ []) (sym kept ∙ before) e
    ∙ rw (add-one, take-suc deltas i 0 l) refl
  where
    sum : (columns k : ℕ) → y * columns + (x + k) ≡ y * columns + x + k
    sum columns k = omega arith

    kept : run_residuals p d z (y * d.shape.columns + x) i ≡ run_residuals p (put d z y (x + i) v) z (y * d.shape.columns + x) i
    kept = same_list _ _ _ i (λ k m. rw (sum d.shape.columns k) at (residual_kept p d z y (x + i) v place whole wide (x + k) (omega (arith, m))))
