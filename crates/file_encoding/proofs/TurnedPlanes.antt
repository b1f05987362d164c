-- Residuals take the place of a group's samples, row after row, and the samples of the next group's previous bands that of the previous planes.
use Rattle.std.proofs.Common.{◌≡◌, ◌+◌, ◌-◌, ◌*◌, ◌<◌, ◌≤◌, ℕ, suc, List, [], ◌∷◌, ◌++◌, length, get_or, refl, sym, ap, ◌∙◌, arith, inl, inr}
use Rattle.std.proofs.lemmas.Bool.{cases_lt}
use Rattle.std.proofs.lemmas.List.{get_or_append_left, get_or-append_right}
use Rattle.std.proofs.lemmas.Nat.{mul-le}
use Rattle.std.proofs.Math.Arith.{digits_lt}
use Rattle.cube_core.specs.Shape.{Sizes}
use Rattle.cube_core.specs.Kind.{sample_of}
use Rattle.cube_core.specs.Image.{IsPlace}
use Rattle.header_bits.specs.declared.params.Params.{Params}
use Rattle.header_bits.specs.Lawful.{IsLawful}
use Rattle.sample_prediction.specs.HandedRows.{image_of_rows, index_by_rows, row_size}
use Rattle.sample_prediction.proofs.HandedRows.{sample_by_rows}
use Rattle.file_encoding.specs.ByPlanes.{AreLinesInRange, ArePlanesInRange, AreSameBut, HasLinesOf, HasPlanesOf, image_of_planes, least_kept, plane_size}
use Rattle.file_encoding.specs.Own.{rows_of}
use Rattle.file_encoding.proofs.ByLines.{row_end}
use Rattle.file_encoding.proofs.ByPlanes.{sample_by_planes}
use Rattle.file_encoding.proofs.NearBands.{rows_near}

-- the rows of all bands have the first n rows of the planes
abbrev pub HasRowsOf : Sizes → ℕ → List ℕ → ℕ → List ℕ → ℕ → Type 0
HasRowsOf s base planes many rows n = (k y x : ℕ) → k < many → y < n → x < s.columns
    → get_or rows (index_by_rows s (base + k) y x) 0 ≡ get_or planes ((k * s.rows + y) * s.columns + x) 0

-- from row n on, planes are as they were
abbrev pub AreSameFrom : Sizes → ℕ → List ℕ → List ℕ → Type 0
AreSameFrom s n old new = (k y x : ℕ) → n ≤ y → y < s.rows → x < s.columns
    → get_or new ((k * s.rows + y) * s.columns + x) 0 ≡ get_or old ((k * s.rows + y) * s.columns + x) 0

-- ---- rows that were read

-- a row of planes is still what it was before any was written
pub lines_were : (s : Sizes) (base y many : ℕ) (old new row : List ℕ) → y < s.rows → AreSameFrom s y old new → HasLinesOf s base y new many row
    → HasLinesOf s base y old many row
lines_were s base y many old new row inside same lines k x lt column = lines k x lt column ∙ same k y x (omega arith) inside column

pub range_was : (p : Params) (y many : ℕ) (old new : List ℕ) → y < p.shape.rows → AreSameFrom p.shape y old new → ArePlanesInRange p old many → AreLinesInRange p y new many
range_was p y many old new inside same range k x lt column = rw (same k y x (omega arith) inside column) (range y inside k x lt column)

pub rows_more : (s : Sizes) (base many y : ℕ) (planes rows row : List ℕ) → length rows ≡ y * row_size s → y < s.rows → base + many ≤ s.bands
    → HasRowsOf s base planes many rows y → HasLinesOf s base y planes many row → HasRowsOf s base planes many (rows ++ row) (y + 1)
rows_more s base many y planes rows row size inside bands old new k y' x lt up column = elim (cases_lt y' y) [
  | inl before ↦
      let place : IsPlace s (base + k) y' x = record { band = omega (arith, bands, lt); row = omega (arith, before, inside); column = column } in
      get_or_append_left rows row 0 (index_by_rows s (base + k) y' x) (omega (arith, size, row_end s y (base + k) y' x place before)) ∙ old k y' x lt before column
  | inr after ↦
      let same : y' ≡ y = omega (arith, up, after) in
      let here : index_by_rows s (base + k) y x ≡ y * row_size s + ((base + k) * s.columns + x) = grind arith in
      let there : index_by_rows s (base + k) y x - y * row_size s ≡ (base + k) * s.columns + x = omega (arith, here) in
      rw same (get_or-append_right rows row (y * row_size s) (index_by_rows s (base + k) y x) 0 size (omega (arith, here))
      ∙ ap (λ i. get_or row i 0) there ∙ new k x lt column)
]

-- ---- rows that were written

-- the planes hold one row more of those that were handed over
pub rows_moved : (s : Sizes) (base many y : ℕ) (old new rows row : List ℕ) → length rows ≡ y * row_size s → y < s.rows → base + many ≤ s.bands
    → HasRowsOf s base old many rows y → AreSameBut s y old new → HasLinesOf s base y new many row → HasRowsOf s base new many (rows ++ row) (y + 1)
rows_moved s base many y old new rows row size inside bands was others lines =
    rows_more s base many y new rows row size inside bands
    (λ k y' x lt before column.
    was k y' x lt before column ∙ sym (others k y' x (omega (arith, before, inside)) (λ same. omega (arith, before, same)) column))
    lines

pub same_after : (s : Sizes) (y : ℕ) (old mid new : List ℕ) → AreSameFrom s y old mid → AreSameFrom s (y + 1) mid new → AreSameFrom s (y + 1) old new
same_after s y old mid new was same k y' x after inside column = same k y' x after inside column ∙ was k y' x (omega (arith, after)) inside column

pub same_behind : (s : Sizes) (y : ℕ) (old new : List ℕ) → AreSameBut s y old new → AreSameFrom s (y + 1) old new
same_behind s y old new others k y' x after inside column = others k y' x inside (λ same. omega (arith, after, same)) column

-- what comes after a row in the stretch of each plane are the rows behind it
pub later_rows : (s : Sizes) (y plane start : ℕ) (old new : List ℕ) → plane ≡ plane_size s → start ≡ y * s.columns
    → ((k i : ℕ) → start + s.columns ≤ i → i < plane → get_or new (k * plane + i) 0 ≡ get_or old (k * plane + i) 0) → AreSameFrom s (y + 1) old new
later_rows s y plane start old new size begins left k y' x after inside column =
    let up : suc y * s.columns ≤ y' * s.columns = mul-le (suc y) s.columns y' s.columns (omega (arith, after)) (omega arith) in
    let next : suc y * s.columns ≡ y * s.columns + s.columns = grind arith in
    let within : y' * s.columns + x < s.rows * s.columns = digits_lt inside column in
    let there : (k * s.rows + y') * s.columns + x ≡ k * plane_size s + (y' * s.columns + x) = grind arith in
    let place : (k * s.rows + y') * s.columns + x ≡ k * plane + (y' * s.columns + x) = there ∙ ap (λ n. k * n + (y' * s.columns + x)) (sym size) in
    ap (λ i. get_or new i 0) place ∙ left k (y' * s.columns + x) (omega (arith, begins, up, next)) (omega (arith, size, within)) ∙ ap (λ i. get_or old i 0) (sym place)

-- ---- all rows were handed over: the group's residuals are those of each image that has the planes, and the previous planes those of the next group

module _ (p : Params) (first count : ℕ) (planes previous rows offsets : List ℕ) (inside : first + count ≤ p.shape.bands)
    (own : HasRowsOf p.shape first planes count rows p.shape.rows)
    (before : HasRowsOf p.shape (least_kept p first) previous (first - least_kept p first) rows p.shape.rows)
    (own_is : HasPlanesOf p.shape offsets first planes count)
    (before_is : HasPlanesOf p.shape offsets (least_kept p first) previous (first - least_kept p first)) where
  abbrev s : Sizes
  s = p.shape

  number_at : (z y x : ℕ) → least_kept p first ≤ z → z < first + count → y < s.rows → x < s.columns
      → get_or rows (index_by_rows s z y x) 0 ≡ get_or offsets ((z * s.rows + y) * s.columns + x) 0
  number_at z y x low lt row column = elim (cases_lt z first) [
    | inl earlier ↦
        let band : least_kept p first + (z - least_kept p first) ≡ z = omega (arith, low) in
        let few : z - least_kept p first < first - least_kept p first = omega (arith, earlier, low) in
        ap (λ n. get_or rows (index_by_rows s n y x) 0) (sym band) ∙ before (z - least_kept p first) y x few row column
        ∙ before_is (z - least_kept p first) y x few row column ∙ ap (λ n. get_or offsets ((n * s.rows + y) * s.columns + x) 0) band
    | inr later ↦
        let band : first + (z - first) ≡ z = omega (arith, later) in
        let few : z - first < count = omega (arith, lt, later) in
        ap (λ n. get_or rows (index_by_rows s n y x) 0) (sym band) ∙ own (z - first) y x few row column
        ∙ own_is (z - first) y x few row column ∙ ap (λ n. get_or offsets ((n * s.rows + y) * s.columns + x) 0) band
  ]

  pub group_residuals : IsLawful p → (z : ℕ) → first ≤ z → z < first + count
      → rows_of p (image_of_rows s p.kind rows) (z ∷ []) ≡ rows_of p (image_of_planes s p.kind offsets) (z ∷ [])
  unfolding image_of_rows image_of_planes
  group_residuals lawful z low lt =
      rows_near p (image_of_rows s p.kind rows) (image_of_planes s p.kind offsets) z lawful refl (omega (arith, inside, lt)) (record {
        alike = record { shape = refl; kind = refl };
        same = λ z' y x place below near.
            sample_by_rows s p.kind rows z' y x place
            ∙ ap (sample_of p.kind) (number_at z' y x (omega (arith, near, low)) (omega (arith, below, lt)) place.row place.column)
            ∙ sym (sample_by_planes s offsets p.kind z' y x place);
      })

  pub planes_moved : (new : List ℕ) → HasRowsOf s (least_kept p (first + count)) new (first + count - least_kept p (first + count)) rows s.rows
      → HasPlanesOf s offsets (least_kept p (first + count)) new (first + count - least_kept p (first + count))
  planes_moved new moved k y x lt row column =
      sym (moved k y x lt row column) ∙ number_at (least_kept p (first + count) + k) y x (omega arith) (omega (arith, lt)) row column
