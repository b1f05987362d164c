-- An image of which rows are known: what stands at its places.
use Rattle.std.proofs.Common.{◌≡◌, ◌+◌, ◌-◌, ◌*◌, ◌/◌, ◌%◌, ◌^◌, ◌<◌, ◌≤◌, ℕ, suc, List, length, drop, get_or, map, refl, sym, ap, ◌∙◌, arith}
use Rattle.std.specs.List.{AllByRecursion}
use Rattle.std.proofs.lemmas.List.{get_or-map, get_or-take, get_or-drop, length-map, length-take, length-drop, get_or_past}
use Rattle.std.proofs.lemmas.Nat.{div-mul-add, mod-mul-add, mul-le}
use Rattle.std.proofs.lemmas.Bool.{cases_lt}
use Rattle.std.proofs.Common.{inl, inr}
use Rattle.cube_core.specs.Shape.{Sizes, AreSizes, sample_count}
use Rattle.cube_core.specs.Kind.{SampleKind, IsKind, sample_of}
use Rattle.cube_core.specs.Image.{IsCube, IsPlace, index_in, sample_at}
use Rattle.cube_core.specs.Offsets.{AreOffsets, AreRowOffsets}
use Rattle.cube_core.specs.Order.{upto}
use Rattle.cube_core.proofs.Bounds.{index_below}
use Rattle.cube_core.proofs.Lists.{length-from, get_or-from, each_below}
use Rattle.cube_core.proofs.Offsets.{sample_at_offset}
use Rattle.cube_core.proofs.RawBytes.{is_cube}
use Rattle.sample_prediction.specs.HandedRows.{AreLastRows, IsRowThere, image_of_rows, index_by_rows, offset_by_rows, row_size}

-- ---- the offsets, band after band

-- a list may be read past its end: there it has zeros
read_below : (limit : ℕ) (list : List ℕ) (i : ℕ) → 0 < limit → AllByRecursion (λ n. n < limit) list → get_or list i 0 < limit
read_below limit list i some all = elim (cases_lt i (length list)) [
  | inl lt ↦ each_below limit list all i lt
  | inr past ↦ rw (get_or_past list i 0 past) some
]

module _ (s : Sizes) (k : SampleKind) (offsets : List ℕ) (range : AllByRecursion (λ v. v < 2 ^ k.bits) offsets) (some : 0 < 2 ^ k.bits) where
  by_bands : List ℕ
  by_bands = map (offset_by_rows s offsets) (upto (sample_count s))

  length-by_bands : length by_bands ≡ sample_count s
  unfolding by_bands
  length-by_bands = length-map (upto (sample_count s)) (offset_by_rows s offsets) ∙ length-from 0 (sample_count s)

  by_bands_at : (i : ℕ) → i < sample_count s → get_or by_bands i 0 ≡ offset_by_rows s offsets i
  unfolding by_bands
  by_bands_at i lt =
      get_or-map (offset_by_rows s offsets) (upto (sample_count s)) i 0 0 (rw (length-from 0 (sample_count s)) lt)
      ∙ ap (offset_by_rows s offsets) (get_or-from 0 (sample_count s) i 0 lt ∙ omega arith)

  are_offsets : AreOffsets s k by_bands
  are_offsets = record {
    whole = length-by_bands;
    range = λ i lt. rw (by_bands_at i (omega (arith, lt, length-by_bands))) (read_below (2 ^ k.bits) offsets _ some range);
  }

  pub image_is_cube : AreSizes s → IsKind k → IsCube (image_of_rows s k offsets)
  unfolding image_of_rows by_bands
  image_is_cube sizes bits = is_cube s k by_bands sizes bits are_offsets

-- ---- samples

-- an index of the list of samples, band after band, tells its place
index_row : (s : Sizes) (z y x : ℕ) → x < s.columns → index_in s.columns s.rows z y x / s.columns ≡ z * s.rows + y
index_row s z y x lt = div-mul-add (z * s.rows + y) s.columns x lt

offset_there : (s : Sizes) (offsets : List ℕ) (z y x : ℕ) → y < s.rows → x < s.columns
    → offset_by_rows s offsets (index_in s.columns s.rows z y x) ≡ get_or offsets (index_by_rows s z y x) 0
offset_there s offsets z y x row column =
    let i : ℕ = index_in s.columns s.rows z y x in
    let band : i / s.columns / s.rows ≡ z = ap (λ n. n / s.rows) (index_row s z y x column) ∙ div-mul-add z s.rows y row in
    let there : i / s.columns % s.rows ≡ y = ap (λ n. n % s.rows) (index_row s z y x column) ∙ mod-mul-add z s.rows y row in
    let place : i % s.columns ≡ x = mod-mul-add (z * s.rows + y) s.columns x column in
    rw (band, there, place) refl

pub sample_by_rows : (s : Sizes) (k : SampleKind) (offsets : List ℕ) (z y x : ℕ) → IsPlace s z y x
    → sample_at (image_of_rows s k offsets) z y x ≡ sample_of k (get_or offsets (index_by_rows s z y x) 0)
unfolding image_of_rows
sample_by_rows s k offsets z y x place =
    let listed : List ℕ = map (offset_by_rows s offsets) (upto (sample_count s)) in
    let within : index_in s.columns s.rows z y x < sample_count s = index_below s.columns s.rows s.bands z y x place.band place.row place.column in
    let long : length listed ≡ sample_count s = length-map (upto (sample_count s)) (offset_by_rows s offsets) ∙ length-from 0 (sample_count s) in
    let read : get_or listed (index_in s.columns s.rows z y x) 0 ≡ offset_by_rows s offsets (index_in s.columns s.rows z y x) =
    get_or-map (offset_by_rows s offsets) (upto (sample_count s)) (index_in s.columns s.rows z y x) 0 0 (rw (length-from 0 (sample_count s)) within)
    ∙ ap (offset_by_rows s offsets) (get_or-from 0 (sample_count s) (index_in s.columns s.rows z y x) 0 within ∙ omega arith) in
    sample_at_offset (image_of_rows s k offsets) s k listed z y x (index_in s.columns s.rows z y x) refl refl (rw long within)
    ∙ ap (sample_of k) (read ∙ offset_there s offsets z y x place.row place.column)

-- ---- the last rows

module _ (s : Sizes) (z : ℕ) (row band : List ℕ) (there : IsRowThere s z row band) where
  pub length-band : z < s.bands → length row ≡ row_size s → length band ≡ s.columns
  length-band in_bands size =
      let low : suc z * s.columns ≤ s.bands * s.columns = mul-le (suc z) s.columns s.bands s.columns (omega (arith, in_bands)) (omega arith) in
      let next : suc z * s.columns ≡ z * s.columns + s.columns = grind arith in
      rw there (omega (arith, low, next, size, length-take s.columns (drop (z * s.columns) row), length-drop (z * s.columns) row))

  band_read : (x : ℕ) → x < s.columns → get_or band x 0 ≡ get_or row (z * s.columns + x) 0
  band_read x lt = rw there (get_or-take s.columns (drop (z * s.columns) row) x 0 lt ∙ get_or-drop (z * s.columns) row x 0)

-- the samples of band z in row y, where these stand from `start` on
module _ (s : Sizes) (k : SampleKind) (offsets row band : List ℕ) (z y : ℕ) (range : AllByRecursion (λ v. v < 2 ^ k.bits) offsets) (some : 0 < 2 ^ k.bits)
    (in_bands : z < s.bands) (in_rows : y < s.rows) (from_row : (i : ℕ) → i < row_size s → get_or row i 0 ≡ get_or offsets (y * row_size s + i) 0)
    (there : IsRowThere s z row band) where
  band_there : (x : ℕ) → x < s.columns
      → (get_or band x 0 < 2 ^ k.bits) × (sample_at (image_of_rows s k offsets) z y x ≡ sample_of k (get_or band x 0))
  band_there x lt =
      let low : suc z * s.columns ≤ s.bands * s.columns = mul-le (suc z) s.columns s.bands s.columns (omega (arith, in_bands)) (omega arith) in
      let next : suc z * s.columns ≡ z * s.columns + s.columns = grind arith in
      let place : y * row_size s + (z * s.columns + x) ≡ index_by_rows s z y x = grind arith in
      let read : get_or band x 0 ≡ get_or offsets (index_by_rows s z y x) 0 =
      band_read s z row band there x lt ∙ from_row (z * s.columns + x) (omega (arith, low, next, lt)) ∙ ap (λ i. get_or offsets i 0) place in (
        rw read (read_below (2 ^ k.bits) offsets _ some range),
        sample_by_rows s k offsets z y x (record { band = in_bands; row = in_rows; column = lt }) ∙ ap (sample_of k) (sym read),
      )

module _ (s : Sizes) (k : SampleKind) (offsets : List ℕ) (y : ℕ) (last before : List ℕ) (h : AreLastRows s k offsets y last before) where
  pub length-last : length last ≡ row_size s
  length-last =
      let more : (y + 1) * row_size s ≡ y * row_size s + row_size s = grind arith in
      rw h.present (omega (arith, more, h.size, length-drop (y * row_size s) offsets))

  pub length-before : length before ≡ row_size s
  length-before =
      let more : (y + 1) * row_size s ≡ y * row_size s + row_size s = grind arith in
      let low : (y - 1) * row_size s ≤ y * row_size s = mul-le (y - 1) (row_size s) y (row_size s) (omega arith) (omega arith) in
      rw h.above (omega (arith, more, low, h.size, length-take (row_size s) (drop ((y - 1) * row_size s) offsets), length-drop ((y - 1) * row_size s) offsets))

module _ (s : Sizes) (k : SampleKind) (offsets : List ℕ) (y : ℕ) (last before : List ℕ) (h : AreLastRows s k offsets y last before) (some : 0 < 2 ^ k.bits)
    (z : ℕ) (band : List ℕ) (in_bands : z < s.bands) where
  pub last_there : IsRowThere s z last band → AreRowOffsets (image_of_rows s k offsets) z y band
  unfolding image_of_rows
  last_there there x lt =
      band_there s k offsets last band z y h.range some in_bands h.row (λ i in_row. rw h.present (get_or-drop (y * row_size s) offsets i 0)) there x lt

  pub above_there : IsRowThere s z before band → AreRowOffsets (image_of_rows s k offsets) z (y - 1) band
  unfolding image_of_rows
  above_there there x lt =
      band_there s k offsets before band z (y - 1) h.range some in_bands (omega (arith, h.row))
      (λ i in_row. rw h.above (get_or-take (row_size s) (drop ((y - 1) * row_size s) offsets) i 0 in_row ∙ get_or-drop ((y - 1) * row_size s) offsets i 0))
      there x lt
