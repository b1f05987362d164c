-- A predictor's part of the residuals is those of its own bands, in encoding order.
use Rattle.std.proofs.Common.{◌≡◌, ◌+◌, ◌*◌, ℕ, Bool, true, false, List, [], ◌∷◌, length, map, refl, sym, ap, ◌∙◌}
use Rattle.std.specs.Prelude.{◌==◌, if◌then◌else◌, filter, slice_index_or}
use Rattle.std.specs.List.{flat_map}
use Rattle.std.proofs.lemmas.List.{length-map, map-append}
use Rattle.std.proofs.lemmas.List.Elements.{filter-append}
use Rattle.std.proofs.lemmas.List.Concat.{flat_map_single}
use Rattle.std.proofs.lemmas.Simd.{map-map}
use Rattle.cube_core.specs.declared.order.Order.{Order}
use Rattle.cube_core.specs.declared.order.Order.TheVariants.{Bsq, Bi}
use Rattle.cube_core.specs.declared.order.Place.{Place}
use Rattle.cube_core.specs.Image.{Image}
use Rattle.cube_core.specs.Order.{IsOrder, upto, group, group_count, places}
use Rattle.cube_core.specs.Shape.{sample_count}
use Rattle.cube_core.proofs.Orders.{length-places}
use Rattle.header_bits.specs.declared.params.Params.{Params}
use Rattle.sample_prediction.specs.Residual.{mapped_residual, residuals}
use Rattle.file_encoding.specs.Own.{own, column_of, row_of, rows_of, line_of, own_residuals, owners_of, part, OwnIsPart}
use Rattle.file_encoding.proofs.Groups.{own_alone}
use Rattle.file_encoding.proofs.Sending.{nothing_each}

-- what is chosen, and its images
chosen : {A B : Type 0} (b : Bool) (f : A → B) (x : A) (xs : List A) (ys : List B) → ys ≡ map f xs
    → (if b then f x ∷ ys else ys) ≡ map f (if b then x ∷ xs else xs)
chosen true f x xs ys e = ap (λ v. f x ∷ v) e
chosen false f x xs ys e = e

filter_of : {A B : Type 0} (test : B → Bool) (f : A → B) (xs : List A) → filter test (map f xs) ≡ map f (filter (λ x. test (f x)) xs)
filter_of test f [] = refl
filter_of test f (x ∷ xs) = chosen (test (f x)) f x (filter (λ x. test (f x)) xs) (filter test (map f xs)) (filter_of test f xs)

module _ (p : Params) (c : Image) (q : ℕ) (deal : List ℕ) where
  abbrev residual : Place → ℕ
  residual r = mapped_residual p c r.z (r.y * c.shape.columns + r.x)

  abbrev mine : Place → Bool
  mine r = slice_index_or deal r.z 0 == q

  -- the residuals of those of some places that are the predictor's
  abbrev at_own : List Place → List ℕ
  at_own ps = map residual (filter mine ps)

  part_at_own : (ps : List Place) → part q (owners_of deal ps) (map residual ps) ≡ at_own ps
  unfolding part owners_of
  part_at_own [] = refl
  part_at_own (r ∷ ps) = chosen (mine r) residual r (filter mine ps) (part q (owners_of deal ps) (map residual ps)) (part_at_own ps)

  own_each : {A : Type 0} (h : A → List Place) (f : A → List ℕ) (xs : List A) → ((x : A) → at_own (h x) ≡ f x) → at_own (flat_map h xs) ≡ flat_map f xs
  own_each h f [] e = refl
  own_each h f (x ∷ xs) e = rw (filter-append, map-append, e x, own_each h f xs e) refl

  -- some bands at one row and column, and some columns of one band's row
  own_column : (y x : ℕ) (zs : List ℕ) → at_own (map (λ z. record { z = z; y = y; x = x }) zs) ≡ column_of p c (own q deal zs) y x
  own_column y x zs =
      ap (map residual) (filter_of mine (λ z. record { z = z; y = y; x = x }) zs) ∙ map-map residual (λ z. record { z = z; y = y; x = x }) (own q deal zs)

  own_row : (z y : ℕ) (xs : List ℕ) → at_own (map (λ x. record { z = z; y = y; x = x }) xs) ≡ flat_map (λ x. column_of p c (own q deal (z ∷ [])) y x) xs
  own_row z y xs =
      ap at_own (sym (flat_map_single (λ x. record { z = z; y = y; x = x }) xs))
      ∙ own_each (λ x. record { z = z; y = y; x = x } ∷ []) _ xs (λ x. own_column y x (z ∷ []))

  by_order : (order : Order) → at_own (places c.shape order) ≡ own_residuals p c q deal order
  unfolding places row_of rows_of line_of
  by_order Bsq =
      own_each _ (λ z. rows_of p c (own q deal (z ∷ []))) (upto c.shape.bands) (λ z. own_each _ _ (upto c.shape.rows) (λ y. own_row z y (upto c.shape.columns)))
      ∙ own_alone q deal (rows_of p c) (simp nothing_each) (upto c.shape.bands)
  by_order (Bi depth) =
      own_each _ (λ y. line_of p c q deal depth y) (upto c.shape.rows) (λ y.
      own_each _ (λ i. row_of p c (own q deal (group c.shape depth i)) y) (upto (group_count c.shape depth)) (λ i.
      own_each _ _ (upto c.shape.columns) (λ x. own_column y x (group c.shape depth i))))

pub own_is_part : OwnIsPart
unfolding residuals
own_is_part p c q deal shape =
    ap (λ s. part q (owners_of deal (places s p.order)) (residuals p c)) (sym shape) ∙ part_at_own p c q deal (places c.shape p.order)
    ∙ by_order p c q deal p.order

-- there is one residual for each sample
pub length-residuals : (p : Params) (c : Image) → IsOrder c.shape p.order → length (residuals p c) ≡ sample_count c.shape
unfolding residuals
length-residuals p c lawful = rw length-map (length-places c.shape p.order lawful)
