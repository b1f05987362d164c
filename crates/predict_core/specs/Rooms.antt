-- The local sums and differences of a run of places, which are computed before its weights are known.
use Rattle.std.specs.Prelude.{ℕ, ◌≡◌, ◌+◌, ◌-◌, ◌*◌, ◌/◌, ◌^◌, ◌<◌, ◌≤◌, nat_le, nat_lt, ℤ, pos, ◌+ℤ◌, ◌*ℤ◌, ◌≤ℤ◌, unsigned_abs, List, [], ◌++◌, map, take}
use Rattle.std.specs.Prelude.{replicate, slice_index_or, if◌then◌else◌}
use Rattle.std.specs.List.{flat_map}
use Rattle.cube_core.specs.Kind.{smin}
use Rattle.cube_core.specs.Image.{Image}
use Rattle.cube_core.specs.Order.{from}
use Rattle.sample_prediction.specs.declared.predictor.Predictor.{Predictor}
use Rattle.predict_core.specs.declared.differences.room.Quad.{Quad}
use Rattle.sample_prediction.specs.Predictor.{previous_bands}
use Rattle.sample_prediction.specs.LocalSum.{local_sum}
use Rattle.sample_prediction.specs.Differences.{central_difference, difference_vector}
use Rattle.sample_prediction.specs.Bounds.{AllWithin}
use Rattle.sample_prediction.specs.Arithmetic.{floor_div, clip}
use Rattle.sample_prediction.specs.Residual.{mapped_between}

-- the four components of place i in quad k; 0 if the quad isn't among the first n, which are in use
abbrev pub quad_or_zeros : ℕ → List Quad → ℕ → ℕ → List ℤ
quad_or_zeros n quads k i = if nat_lt k n then slice_index_or (slice_index_or quads k (record { places = [] })).places i [] else replicate 4 (pos 0)

-- the components of place i of a run, from the first n quads
unfoldable pub components_at : ℕ → List Quad → ℕ → List ℤ
components_at n quads i = flat_map (λ (q : Quad). slice_index_or q.places i []) (take n quads)

-- the number of quads that hold `count` components
abbrev pub quads_of : ℕ → ℕ
quads_of count = (count + 3) / 4

-- the central difference of the k-th previous band at a place, or 0 if it isn't used
unfoldable pub lower_difference : Predictor → Image → ℕ → ℕ → ℕ → ℕ → ℤ
lower_difference p c z y x k = if nat_le k (previous_bands p z) then central_difference p c (z - k) y x else pos 0

-- those of n previous bands, from the k-th on
unfoldable pub lower_differences : Predictor → Image → ℕ → ℕ → ℕ → ℕ → ℕ → List ℤ
lower_differences p c z y x k n = map (lower_difference p c z y x) (from k n)

-- `sums`, `own` and `quads` hold σ - 4·s_min, d and U for each of the `count` places of band z from row y, column x on, except at t = 0;
-- zeros fill U up to whole quads, and all are within their bounds
pub record IsRoom (p : Predictor) (c : Image) (z y x count components : ℕ) (sums own : List ℤ) (quads : List Quad) : Type 0 where
  pub sum : (i : ℕ) → i < count → 0 < y + (x + i) → pos 4 *ℤ smin c.kind +ℤ slice_index_or sums i (pos 0) ≡ local_sum p c z y (x + i)
  pub central : (i : ℕ) → i < count → 0 < y + (x + i) → slice_index_or own i (pos 0) ≡ central_difference p c z y (x + i)
  pub vector : (i : ℕ) → i < count → 0 < y + (x + i) → components_at (quads_of components) quads i ≡ difference_vector p c z y (x + i) ++ replicate
      (4 * quads_of components - components) (pos 0)
  pub sum_least : (i : ℕ) → i < count → 0 < y + (x + i) → pos 0 ≤ℤ slice_index_or sums i (pos 0)
  pub sum_most : (i : ℕ) → i < count → 0 < y + (x + i) → slice_index_or sums i (pos 0) ≤ℤ pos 262140
  pub central_in : (i : ℕ) → i < count → 0 < y + (x + i) → unsigned_abs (slice_index_or own i (pos 0)) ≤ 4 * 2 ^ c.kind.bits
  pub vector_in : (i : ℕ) → i < count → 0 < y + (x + i) → AllWithin (4 * 2 ^ c.kind.bits) (components_at (quads_of components) quads i)

-- δ of a sample, given as an offset, from d̂ and the local sum of offsets
unfoldable pub offset_number : ℤ → ℤ → ℤ → ℕ → ℕ
offset_number greatest part sum offset =
    mapped_between (pos 0) greatest (clip (floor_div (part +ℤ sum) 2 +ℤ pos 1) (pos 0) (pos 2 *ℤ greatest +ℤ pos 1)) (pos offset)
