-- A cube's residuals are in range, and no other cube has them.
use Rattle.std.proofs.Common.{◌≡◌, ◌+◌, ◌*◌, ◌<◌, ◌≤◌, ◌^◌, ◌-◌, ◌==◌, ◌||◌, ℕ, suc, zero, ℤ, pos, ◌≤ℤ◌, ◌*ℤ◌, ◌+ℤ◌, false, List, map, refl, sym}
use Rattle.std.proofs.Common.{ap, ◌∙◌, subst, inl, inr, arith}
use Rattle.std.specs.List.{AllByRecursion}
use Rattle.std.proofs.lemmas.Int.{ints, int_max_is, int_min_is}
use Rattle.std.specs.Int.{int_max, int_min}
use Rattle.std.proofs.lemmas.Bool.{cases_lt, cases_Bool}
use Rattle.cube_core.specs.declared.order.Place.{Place}
use Rattle.cube_core.specs.Shape.{Sizes, sample_count}
use Rattle.cube_core.specs.Kind.{SampleKind, IsSample, smin, smax, smid}
use Rattle.cube_core.specs.Image.{Image, IsCube, sample_at}
use Rattle.cube_core.specs.Order.{IsOrder, IsPlaceOf, places, place_index}
use Rattle.cube_core.proofs.Bounds.{least_inside, middle_inside}
use Rattle.cube_core.proofs.Come.{time_of}
use Rattle.cube_core.proofs.Keys.{order_is_by_key, item_of_index, key_increases}
use Rattle.cube_core.proofs.Images.{same_cube}
use Rattle.cube_core.proofs.Lists.{all_mapped, map_same}
use Rattle.cube_core.proofs.Orders.{place_index_below}
use Rattle.header_bits.specs.declared.params.Params.{Params}
use Rattle.sample_prediction.specs.declared.predictor.Predictor.{Predictor}
use Rattle.predict_core.specs.Cubes.{OneCube}
use Rattle.predict_core.specs.Precedence.{AreAlike, SameBefore}
use Rattle.sample_prediction.specs.Prediction.{scaled_prediction, scaled_there, scaled_by, first_scaled}
use Rattle.sample_prediction.specs.Mapping.{IsScaled, unmapped_between}
use Rattle.sample_prediction.specs.Residual.{mapped, mapped_residual, residuals}
use Rattle.predict_core.proofs.Following.{mapped_at}
use Rattle.predict_core.proofs.Frame.{places_precede_lem}
use Rattle.predict_core.proofs.Kept.{wide_of}
use Rattle.sample_prediction.proofs.OneSample.{one_sample_lem, sample_back}
use Rattle.predict_core.proofs.Ranges.{sample_within}

-- ---- predictions are in range

twice_inside : (k : SampleKind) (v : ℤ) → IsSample k v → IsScaled k (pos 2 *ℤ v)
twice_inside k v h = (omega (arith, ints, h.0), omega (arith, ints, h.1))

clip_inside : (low high a : ℤ) → low ≤ℤ high → (low ≤ℤ int_max low (int_min a high)) × (int_max low (int_min a high) ≤ℤ high)
clip_inside low high a h = (let most = int_max_is low (int_min a high) in let least = int_min_is a high in (omega (arith, ints), omega (arith, ints)))

first_inside : (p : Predictor) (c : Image) (z : ℕ) → IsCube c → z < c.shape.bands → IsScaled c.kind (first_scaled p c z)
unfolding first_scaled
first_inside p c z cube band = elim (cases_Bool (p.previous == 0 || z == 0)) [
  | inl e ↦ rw e (twice_inside c.kind (smid c.kind) (least_inside c.kind, middle_inside c.kind cube.bits))
  | inr e ↦
      (let place : IsPlaceOf c.shape (record { z = z - 1; y = 0; x = 0 }) =
      record { band = omega (arith, band); row = omega (arith, cube.sizes.rows.0); column = omega (arith, cube.sizes.columns.0) } in
      rw e (twice_inside c.kind _ (sample_within c cube _ _ _ place)))
]

there_inside : (p : Predictor) (c : Image) (z y x : ℕ) (ws : List ℤ) → IsCube c → IsScaled c.kind (scaled_there p c z y x ws)
unfolding scaled_there scaled_by
there_inside p c z y x ws cube =
    let low = least_inside c.kind in let high = middle_inside c.kind cube.bits in
    clip_inside (pos 2 *ℤ smin c.kind) (pos 2 *ℤ smax c.kind +ℤ pos 1) _ (omega (arith, ints, low, high))

pub scaled_inside : (p : Params) (c : Image) (z t : ℕ) → IsCube c → z < c.shape.bands → IsScaled c.kind (scaled_prediction p c z t)
unfolding scaled_prediction
scaled_inside p c z zero cube band = first_inside _ _ _ cube band
scaled_inside p c z (suc t) cube band = there_inside _ _ _ _ _ _ cube

-- ---- so are residuals

residual_inside : (p : Params) (c : Image) (q : Place) → IsCube c → IsPlaceOf c.shape q → mapped_residual p c q.z (time_of c.shape q) < 2 ^ c.kind.bits
residual_inside p c q cube place =
    rw (mapped_at p c q (time_of c.shape q) refl place.column)
    ((one_sample_lem c.kind (scaled_prediction p c q.z _) cube.bits (scaled_inside _ _ _ _ cube place.band)).0 _ (sample_within c cube _ _ _ place))

pub residuals_inside : (p : Params) (c : Image) → IsOrder c.shape p.order → IsCube c → AllByRecursion (λ v. v < 2 ^ c.kind.bits) (residuals p c)
unfolding residuals
residuals_inside p c lawful cube = all_mapped _ _ _ (λ i q e. residual_inside _ _ _ cube ((order_is_by_key c.shape p.order lawful).only i q e))

-- ---- one cube

module _ (p : Params) (c d : Image) (lawful : IsOrder c.shape p.order) (wide : p.column ≡ false → 2 ≤ c.shape.columns) (alike : AreAlike c d)
    (one : IsCube c) (other : IsCube d)
    (same : (q : Place) → IsPlaceOf c.shape q → mapped_residual p c q.z (time_of c.shape q) ≡ mapped_residual p d q.z (time_of c.shape q)) where
  -- where all places before it are the same, a place is
  next_same : (q : Place) → IsPlaceOf c.shape q → SameBefore p.order c d (place_index c.shape p.order q) → sample_at c q.z q.y q.x ≡ sample_at d q.z q.y q.x
  next_same q place before =
      let t : ℕ = time_of c.shape q in let columns : c.shape.columns ≡ d.shape.columns = ap (λ (s : Sizes). s.columns) alike.shape in
      let value : ℤ = scaled_prediction p c q.z t in
      let scaled = (places_precede_lem p p.order c d q wide alike place (λ r there e. before r there (key_increases _ _ r q lawful there place e))).scaled in
      let here = mapped_at p c q t refl place.column in
      let there = mapped_at p d q t (ap (λ (n : ℕ). q.y * n + q.x) columns) (omega (arith, columns, place.column)) in
      let number : mapped c.kind value (sample_at c q.z q.y q.x) ≡ mapped c.kind value (sample_at d q.z q.y q.x) =
      sym here ∙ same q place ∙ there ∙ rw (scaled, alike.kind) refl in
      let yours : IsSample c.kind (sample_at d q.z q.y q.x) = rw alike.kind (sample_within d other _ _ _ (rw alike.shape at place)) in
      let back = sample_back (smin c.kind) (smax c.kind) value (scaled_inside p c q.z t one place.band).0 (scaled_inside p c q.z t one place.band).1 in
      sym (back _ (sample_within c one _ _ _ place)) ∙ ap (unmapped_between (smin c.kind) (smax c.kind) value) number ∙ back _ yours

  all_same : (i : ℕ) → SameBefore p.order c d i
  all_same zero r place lt = absurd (omega arith)
  all_same (suc i) r place lt =
      elim (cases_lt (place_index c.shape p.order r) i) [
        | inl below ↦ all_same i r place below
        | inr here ↦ next_same r place (subst (SameBefore p.order c d) (let e : i ≡ place_index c.shape p.order r = omega arith in e) (all_same i))
      ]

pub one_cube : OneCube
unfolding residuals
one_cube p c d lawful a b e =
    let shape : c.shape ≡ d.shape = a.shape ∙ sym b.shape in let kind : c.kind ≡ d.kind = a.kind ∙ sym b.kind in
    let order : IsOrder c.shape p.order = rw a.shape lawful.order in
    let lists = e ∙ ap (λ (s : Sizes). map (λ q. mapped_residual p d q.z (q.y * s.columns + q.x)) (places s p.order)) (sym shape) in
    let same : (q : Place) → IsPlaceOf c.shape q → mapped_residual p c q.z (time_of c.shape q) ≡ mapped_residual p d q.z (time_of c.shape q) =
    λ q place. map_same (λ r. mapped_residual p c r.z (time_of c.shape r)) (λ r. mapped_residual p d r.z (time_of c.shape r)) (places c.shape p.order)
    (place_index c.shape p.order q) q lists (item_of_index c.shape p.order q order place) in
    let before = all_same p c d order (wide_of p c lawful a.shape) (record { shape = shape; kind = kind }) a.cube b.cube same (sample_count c.shape) in
    same_cube c d shape kind a.cube b.cube (λ q place. before q place (place_index_below c.shape p.order q order place))
