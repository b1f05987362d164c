-- The offsets of a run of places and of the row above it, in lines of fixed length with one more place at each end.
use Rattle.std.specs.Prelude.{ℕ, ◌≡◌, ◌+◌, ◌-◌, ◌*◌, ◌<◌, ◌==◌, ◌||◌, List, [], ◌∷◌, ◌++◌, replicate, length, slice_index, ℤ}
use Rattle.std.specs.Prelude.{pos, ◌+ℤ◌, ◌*ℤ◌, Bool, if◌then◌else◌}
use Rattle.cube_core.specs.Kind.{smin}
use Rattle.cube_core.specs.Image.{Image}
use Rattle.sample_prediction.specs.declared.predictor.Predictor.{Predictor}
use Rattle.sample_prediction.specs.LocalSum.{local_sum}
use Rattle.sample_prediction.specs.Differences.{central_difference, directional_differences}
use Rattle.sample_prediction.specs.OffsetSum.{offset_sum, offset_difference}

-- a row with one more offset at each end
abbrev pub bordered : ℕ → List ℕ → ℕ → List ℕ
bordered before row after = (before ∷ row) ++ (after ∷ [])

-- σ of offsets at place i of the run: four times the one above it, or the sum of its four neighbours
abbrev pub line_sum : Bool → List ℕ → List ℕ → ℕ → ℕ
line_sum column current above i =
    if column then 4 * slice_index above (i + 1)
    else slice_index current i + slice_index above i + slice_index above (i + 1) + slice_index above (i + 2)

-- d at place i of the run
abbrev pub line_difference : Bool → List ℕ → List ℕ → ℕ → ℤ
line_difference column current above i = offset_difference (slice_index current (i + 1)) (line_sum column current above i)

-- d^N there
abbrev pub line_north : Bool → List ℕ → List ℕ → ℕ → ℤ
line_north column current above i = offset_difference (slice_index above (i + 1)) (line_sum column current above i)

-- d^N, d^W and d^NW there
abbrev pub line_directions : Bool → List ℕ → List ℕ → ℕ → List ℤ
line_directions column current above i =
    line_north column current above i ∷ offset_difference (slice_index current i) (line_sum column current above i) ∷ offset_difference
    (slice_index above i) (line_sum column current above i) ∷ []

-- the row above with an offset more at each end, such that the sum of four neighbours is σ in the first and the last column, too
abbrev pub bordered_above : Bool → List ℕ → List ℕ
bordered_above column above =
    if column then bordered (slice_index above 0) above (slice_index above 0)
    else bordered (slice_index above 1) above (slice_index above (length above - 1))

-- two lines hold the `count` places from column x on, and their neighbours: place i stands at index i + 1, after its western neighbour
pub record AreLines (column : Bool) (y : ℕ) (row above : List ℕ) (x count : ℕ) (current upper : List ℕ) : Type 0 where
  pub own : (i : ℕ) → i < count → slice_index current (i + 1) ≡ slice_index row (x + i)
  pub west : (i : ℕ) → i < count → 0 < x + i → slice_index current i ≡ slice_index row (x + i - 1)
  pub north : (i : ℕ) → i < count → 0 < y → slice_index upper (i + 1) ≡ slice_index above (x + i)
  pub north_west : (i : ℕ) → i < count → 0 < y → 0 < x + i → slice_index upper i ≡ slice_index above (x + i - 1)
  pub beside_first : 0 < y → x ≡ 0 → slice_index current 0 ≡ slice_index above 0
  pub sum : (i : ℕ) → i < count → 0 < y + (x + i) → line_sum (column || y == 0) current upper i ≡ offset_sum column y row above (x + i)

-- two lines give the local sums and differences of `count` places of band z from row y, column x on
pub record AreBandLines (p : Predictor) (c : Image) (z y x count : ℕ) (current upper : List ℕ) : Type 0 where
  pub sum : (i : ℕ) → i < count → 0 < y + (x + i) → local_sum p c z y (x + i) ≡ pos 4 *ℤ smin c.kind +ℤ pos (line_sum (p.column || y == 0) current upper i)
  pub central : (i : ℕ) → i < count → 0 < y + (x + i) → central_difference p c z y (x + i) ≡ line_difference (p.column || y == 0) current upper i
  pub directions : (i : ℕ) → i < count → 0 < y → 0 < x + i → directional_differences p c z y (x + i) ≡ line_directions (p.column || y == 0) current upper i
  pub first_directions : 0 < y → x ≡ 0 → directional_differences p c z y x ≡ replicate 3 (line_north (p.column || y == 0) current upper 0)
