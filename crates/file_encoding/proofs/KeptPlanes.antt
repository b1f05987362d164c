-- Planes that are kept: the rows of all bands that are made of them, and the residuals of a group of their bands.
use Rattle.std.proofs.Common.{◌≡◌, ◌+◌, ◌-◌, ◌*◌, ◌^◌, ◌<◌, ◌≤◌, ℕ, zero, suc, List, [], ◌∷◌, ◌++◌, length, take, drop, get_or, refl, sym, ap, ◌∙◌, subst, arith, inl, inr}
use Rattle.std.proofs.Common.{length-append, length-drop, length-take, replicate, take_all}
use Rattle.std.specs.List.{flat_map, AllByRecursion}
use Rattle.std.proofs.Math.Seq.{take-append_seam, drop-append_seam}
use Rattle.std.proofs.lemmas.Bool.{cases_lt}
use Rattle.std.proofs.lemmas.Grind.{get_or_default_zero}
use Rattle.std.proofs.lemmas.List.{get_or-take, get_or-drop, drop-append-le}
use Rattle.std.proofs.lemmas.List.Elements.{recursion_from_All}
use Rattle.std.proofs.lemmas.Nat.{mul-le, pow_pos}
use borrow.Rule.Slice.PartMut.{put_mid, post_of, same_len_mid}
use Rattle.cube_core.specs.Shape.{Sizes}
use Rattle.cube_core.specs.Order.{upto}
use Rattle.header_bits.specs.declared.params.Params.{Params}
use Rattle.header_bits.specs.Lawful.{IsLawful}
use Rattle.header_bits.proofs.Items.{all_append, all_drop, all_replicate, all_take}
use Rattle.sample_prediction.specs.HandedRows.{AreLastRows, image_of_rows, row_size}
use Rattle.predict_core.specs.Following.{PredictorState}
use Rattle.file_encoding.specs.Own.{row_of}
use Rattle.file_encoding.specs.Walks.{IsSeen, AreAt}
use Rattle.file_encoding.specs.ByPlanes.{IsRow, plane_size}
use Rattle.file_encoding.proofs.ByLines.{HaveSameRows, are_at_same, image_more, row_there}
use Rattle.file_encoding.proofs.KeptRows.{put_outside, row_more, row_before}
use Rattle.file_encoding.proofs.Sending.{same_lists}

-- ---- lists of which a part was replaced

pub all_put : {X : Type 0} (P : X → Type 0) (a k : ℕ) (xs ys : List X) → AllByRecursion P xs → AllByRecursion P ys → AllByRecursion P (put_mid a k xs ys)
all_put P a k xs ys h g =
    all_append P (take a xs) (ys ++ post_of a k xs) (all_take P a xs h) (all_append P ys (post_of a k xs) g (all_drop P k (drop a xs) (all_drop P a xs h)))

pub length_put : {X : Type 0} (a k : ℕ) (xs ys : List X) → a + k ≤ length xs → length ys ≡ k → length (put_mid a k xs ys) ≡ length xs
length_put a k xs ys fits long = same_len_mid a k xs ys (omega (arith, fits, long, length-take k (drop a xs), length-drop a xs))

pub each_of : (P : ℕ → Type 0) (zs : List ℕ) → AllByRecursion P zs → (i : ℕ) → i < length zs → P (get_or zs i 0)
each_of P [] h i lt = absurd (omega (arith, lt))
each_of P (z ∷ zs) h zero lt = h.0
each_of P (z ∷ zs) h (suc i) lt = each_of P zs h.1 i (omega (arith, lt))

-- ---- lines of as many columns, one after another, of which one is written

pub zero_row : (p : Params) (row : List ℕ) (n : ℕ) → row ≡ replicate n 0 → length row ≡ row_size p.shape → IsRow p row
zero_row p row n is size = record { size = size; range = rw is (all_replicate (λ v. v < 2 ^ p.kind.bits) n 0 (pow_pos p.kind.bits)) }

module _ (columns i first many : ℕ) (row line : List ℕ) (start : first ≡ i * columns) (fits : i * columns + columns ≤ length row) (long : length line ≡ columns)
    (size : many ≡ columns) where
  place : first ≡ i * columns + 0
  place = omega (arith, start)

  whole : 0 + columns ≡ columns
  whole = omega arith

  pub line_there : take columns (drop (i * columns) (put_mid first many row line)) ≡ line
  line_there =
      subst (λ a. take columns (drop (i * columns) (put_mid a many row line)) ≡ line) (sym place)
      (rw whole at (row_more columns i 0 columns many row line (omega arith) (omega (arith, fits)) long size))

  pub lines_before : (j : ℕ) → j < i → take columns (drop (j * columns) (put_mid first many row line)) ≡ take columns (drop (j * columns) row)
  lines_before j lt =
      subst (λ a. take columns (drop (j * columns) (put_mid a many row line)) ≡ take columns (drop (j * columns) row)) (sym place)
      (rw whole at (row_before columns i 0 columns many row line (omega arith) (omega (arith, fits)) long size j lt))

  -- number after number
  pub number_there : (x : ℕ) → x < columns → get_or (put_mid first many row line) (i * columns + x) 0 ≡ get_or line x 0
  number_there x lt =
      sym (get_or-take columns (drop (i * columns) (put_mid first many row line)) x 0 lt ∙ get_or-drop (i * columns) (put_mid first many row line) x 0)
      ∙ ap (λ ns. get_or ns x 0) line_there

  pub numbers_apart : (j x : ℕ) → (j ≡ i → ⊥) → x < columns → get_or (put_mid first many row line) (j * columns + x) 0 ≡ get_or row (j * columns + x) 0
  numbers_apart j x apart column =
      put_outside first many row line (j * columns + x) (omega (arith, start, fits)) (omega (arith, long, size)) (λ le. elim (cases_lt i j) [
        | inl after ↦
            let up : suc i * columns ≤ j * columns = mul-le (suc i) columns j columns after (omega arith) in
            let next : suc i * columns ≡ i * columns + columns = grind arith in
            omega (arith, start, size, up, next)
        | inr before ↦ elim (cases_lt j i) [
          | inl lt ↦ absurd (
              let up : suc j * columns ≤ i * columns = mul-le (suc j) columns i columns lt (omega arith) in
              let next : suc j * columns ≡ j * columns + columns = grind arith in
              omega (arith, start, le, up, next, column))
          | inr same ↦ absurd (apart (omega (arith, before, same)))
        ]
      ])

-- a band's line in a row is inside it
pub line_inside : (s : Sizes) (base many k : ℕ) → base + many ≤ s.bands → k < many → (base + k) * s.columns + s.columns ≤ row_size s
line_inside s base many k inside lt =
    let up : suc (base + k) * s.columns ≤ s.bands * s.columns = mul-le (suc (base + k)) s.columns s.bands s.columns (omega (arith, inside, lt)) (omega arith) in
    let next : suc (base + k) * s.columns ≡ (base + k) * s.columns + s.columns = grind arith in
    omega (arith, up, next)

-- and a plane's line in the planes
pub line_of_plane : (s : Sizes) (many k y : ℕ) → k < many → y < s.rows → (k * s.rows + y) * s.columns + s.columns ≤ many * plane_size s
line_of_plane s many k y lt row =
    let rows : suc k * s.rows ≤ many * s.rows = mul-le (suc k) s.rows many s.rows lt (omega arith) in
    let next : suc k * s.rows ≡ k * s.rows + s.rows = grind arith in
    let up : suc (k * s.rows + y) * s.columns ≤ many * s.rows * s.columns =
    mul-le (suc (k * s.rows + y)) s.columns (many * s.rows) s.columns (omega (arith, rows, next, row)) (omega arith) in
    let after : suc (k * s.rows + y) * s.columns ≡ (k * s.rows + y) * s.columns + s.columns = grind arith in
    let size : many * s.rows * s.columns ≡ many * plane_size s = grind arith in
    omega (arith, up, after, size)

-- rows of two planes are one only where both planes and rows are
pub rows_apart : (rows k j y y' : ℕ) → y < rows → y' < rows → k * rows + y ≡ j * rows + y' → y ≡ y'
rows_apart rows k j y y' in_k in_j same = elim (cases_lt k j) [
  | inl before ↦ absurd (
      let up : suc k * rows ≤ j * rows = mul-le (suc k) rows j rows before (omega arith) in
      let next : suc k * rows ≡ k * rows + rows = grind arith in
      omega (arith, up, next, same, in_k))
  | inr past ↦ elim (cases_lt j k) [
    | inl after ↦ absurd (
        let up : suc j * rows ≤ k * rows = mul-le (suc j) rows k rows after (omega arith) in
        let next : suc j * rows ≡ j * rows + rows = grind arith in
        omega (arith, up, next, same, in_j))
    | inr before ↦
        let one : k * rows ≡ j * rows = ap (λ n. n * rows) (omega (arith, past, before)) in
        omega (arith, one, same)
  ]
]

-- a line that was cut out of a list
pub line_at : (columns start many : ℕ) (list line : List ℕ) → line ≡ take many (drop start list) → many ≡ columns → (x : ℕ) → x < columns
    → get_or line x 0 ≡ get_or list (start + x) 0
line_at columns start many list line is size x lt =
    ap (λ ns. get_or ns x 0) is ∙ get_or-take many (drop start list) x 0 (omega (arith, size, lt)) ∙ get_or-drop start list x 0

pub line_in_range : (limit columns : ℕ) (line : List ℕ) → length line ≡ columns → ((x : ℕ) → x < columns → get_or line x 0 < limit) → AllByRecursion (λ v. v < limit) line
line_in_range limit columns line long below =
    recursion_from_All (λ v. v < limit) line (λ i d lt. rw (get_or_default_zero line i d lt) (below i (omega (arith, lt, long))))

-- ---- the rows that were handed over

-- a row is handed over after y rows
module _ (p : Params) (y : ℕ) (rows row : List ℕ) (size : length rows ≡ y * row_size p.shape)
    (range : AllByRecursion (λ v. v < 2 ^ p.kind.bits) rows) (is_row : IsRow p row) (inside : y < p.shape.rows) where
  abbrev s : Sizes
  s = p.shape

  abbrev all : List ℕ
  all = rows ++ row

  pub all_size : length all ≡ (y + 1) * row_size s
  all_size =
      let next : (y + 1) * row_size s ≡ y * row_size s + row_size s = grind arith in
      omega (arith, next, size, is_row.size, length-append rows row)

  pub all_range : AllByRecursion (λ v. v < 2 ^ p.kind.bits) all
  all_range = all_append (λ v. v < 2 ^ p.kind.bits) rows row range is_row.range

  pub row_last : row ≡ drop (y * row_size s) all
  row_last = sym (drop-append_seam rows row) ∙ ap (λ n. drop n all) size

  -- it is the last row, and the one before it the row above
  whole_row : take (row_size s) row ≡ row
  whole_row = take_all (row_size s) row (omega (arith, is_row.size))

  first_above : (above : List ℕ) → y ≡ 0 → above ≡ row → above ≡ take (row_size s) (drop ((y - 1) * row_size s) all)
  first_above above none same =
      let start : (y - 1) * row_size s ≡ y * row_size s = ap (λ n. n * row_size s) (omega (arith, none)) in
      same ∙ sym whole_row ∙ ap (take (row_size s)) (row_last ∙ ap (λ n. drop n all) (sym start))

  later_above : (above : List ℕ) → 1 ≤ y → above ≡ drop ((y - 1) * row_size s) rows → above ≡ take (row_size s) (drop ((y - 1) * row_size s) all)
  later_above above some is =
      let size_of : ℕ = row_size s in
      let start : ℕ = (y - 1) * size_of in
      let more : suc (y - 1) * size_of ≡ start + size_of = grind arith in
      let next : y * size_of ≡ start + size_of = ap (λ n. n * size_of) (omega (arith, some)) ∙ more in
      let long : length (drop start rows) ≡ size_of = omega (arith, next, size, length-drop start rows) in
      let cut : drop start all ≡ drop start rows ++ row = drop-append-le start rows row (omega (arith, next, size)) in
      let whole : take size_of (drop start all) ≡ drop start rows =
      ap (take size_of) cut ∙ ap (λ n. take n (drop start rows ++ row)) (sym long) ∙ take-append_seam (drop start rows) row in
      is ∙ sym whole

  pub last_rows : (above was : List ℕ) → (y ≡ 0 → above ≡ row) → (1 ≤ y → above ≡ was) → (1 ≤ y → was ≡ drop ((y - 1) * row_size s) rows)
      → AreLastRows s p.kind all y row above
  last_rows above was first later last = record {
    row = inside;
    size = all_size;
    range = all_range;
    present = row_last;
    above = elim (cases_lt 0 y) [
      | inl some ↦ later_above above some (later some ∙ last some)
      | inr none ↦ first_above above (omega (arith, none)) (first (omega (arith, none)))
    ];
  }

  -- the images of the rows with it and without it are one in the rows before it
  module _ (lawful : IsLawful p) where
    same_rows : HaveSameRows (image_of_rows s p.kind rows) (image_of_rows s p.kind all) y
    same_rows = image_more s p.kind rows row y size

    pub at_more : (bands : List PredictorState) → AreAt p (image_of_rows s p.kind rows) (y * s.columns) bands → AreAt p (image_of_rows s p.kind all) (y * s.columns) bands
    unfolding image_of_rows
    at_more bands at = are_at_same (image_of_rows s p.kind rows) (image_of_rows s p.kind all) y same_rows p lawful refl (omega (arith, inside)) bands at

    pub residuals_more : (z : ℕ) → z < s.bands → flat_map (λ i. row_of p (image_of_rows s p.kind rows) (z ∷ []) i) (upto y)
        ≡ flat_map (λ i. row_of p (image_of_rows s p.kind all) (z ∷ []) i) (upto y)
    unfolding image_of_rows
    residuals_more z band =
        same_lists (λ i. row_of p (image_of_rows s p.kind rows) (z ∷ []) i) (λ i. row_of p (image_of_rows s p.kind all) (z ∷ []) i) 0 0 y
        (λ i lt. row_there (image_of_rows s p.kind rows) (image_of_rows s p.kind all) y same_rows p lawful refl (omega (arith, inside)) (0 + i) (omega (arith, lt)) z 1
        (λ k one. omega (arith, band, one)))

-- an image of rows has the parameters' shape and kind
pub seen_rows : (p : Params) (rows : List ℕ) → IsSeen p (image_of_rows p.shape p.kind rows)
unfolding image_of_rows
seen_rows p rows = record { shape = refl; kind = refl }
