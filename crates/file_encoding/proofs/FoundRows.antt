-- The rows that an encoder was handed, as raw bytes bring them.
use Rattle.std.proofs.Common.{◌≡◌, ◌+◌, ◌*◌, ◌/◌, ◌%◌, ◌^◌, ◌<◌, ◌≤◌, ℕ, zero, suc, List, [], ◌∷◌, ◌++◌, length, length-append, get_or, Ok, refl, sym, ap, ◌∙◌, subst, arith}
use Rattle.std.proofs.lemmas.Nat.{div_below, div-add-mod', mod_below, mul-le}
use Rattle.std.specs.List.{AllByRecursion}
use Rattle.std.specs.Prelude.{slice_index}
use Rattle.cube_core.specs.declared.layout.Layout.{Layout}
use Rattle.cube_core.specs.declared.layout.RawOrder.{RawOrder}
use Rattle.cube_core.specs.declared.layout.RawOrder.TheVariants as raw
use Rattle.cube_core.specs.declared.order.Order.{Order}
use Rattle.cube_core.specs.declared.order.Order.TheVariants.{Bsq, Bi}
use Rattle.cube_core.specs.Image.{Image, IsCube, IsPlace, sample_at}
use Rattle.cube_core.specs.Kind.{SampleKind, sample_of}
use Rattle.cube_core.specs.Layout.{IsLayout, HaveBytes, raw_bytes}
use Rattle.cube_core.specs.Raw.{AreSamples, IsFound}
use Rattle.cube_core.specs.Shape.{AreSizes, Sizes, sample_count}
use Rattle.header_bits.specs.declared.params.Params.{Params}
use Rattle.header_bits.specs.Lawful.{IsLawful}
use Rattle.header_bits.proofs.Items.{all_append}
use Rattle.raw_rows.specs.OneRow.{AreBandRows, one_row, row_number, band_in_row as raw_band, rows_of_raw, samples_of_row}
use Rattle.raw_rows.specs.Together.{GoTogether}
use Rattle.raw_rows.proofs.RowImages.{row_found}
use Rattle.raw_rows.proofs.RowSizes.{same_columns}
use Rattle.file_encoding.specs.ByRows.{band_in_row, image_so_far, row_of_place, rows_of_order}
use Rattle.file_encoding.proofs.ByRows.{cube_so_far, earlier_same, kind_in, row_there, shape_in}

-- ---- the same rows

pub same_rows : (r : RawOrder) (o : Order) (s : Sizes) → GoTogether r o → rows_of_raw r s ≡ rows_of_order o s
same_rows raw.Bsq Bsq s t = refl
same_rows raw.Bsq (Bi depth) s t = absurd t
same_rows raw.Bil Bsq s t = absurd t
same_rows raw.Bil (Bi depth) s t = refl
same_rows raw.Bip Bsq s t = absurd t
same_rows raw.Bip (Bi depth) s t = refl

same_row : (r : RawOrder) (o : Order) (s : Sizes) (z y : ℕ) → GoTogether r o → row_number r s z y ≡ row_of_place o s z y
same_row raw.Bsq Bsq s z y t = refl
same_row raw.Bsq (Bi depth) s z y t = absurd t
same_row raw.Bil Bsq s z y t = absurd t
same_row raw.Bil (Bi depth) s z y t = refl
same_row raw.Bip Bsq s z y t = absurd t
same_row raw.Bip (Bi depth) s z y t = refl

same_band : (r : RawOrder) (o : Order) (z : ℕ) → GoTogether r o → raw_band r z ≡ band_in_row o z
same_band raw.Bsq Bsq z t = refl
same_band raw.Bsq (Bi depth) z t = absurd t
same_band raw.Bil Bsq z t = absurd t
same_band raw.Bil (Bi depth) z t = refl
same_band raw.Bip Bsq z t = absurd t
same_band raw.Bip (Bi depth) z t = refl

-- ---- a row that was read

pub some_samples : (s : Sizes) → AreSizes s → 0 < sample_count s
some_samples s sizes =
    let lines : 1 * 1 ≤ s.bands * s.rows = mul-le 1 1 s.bands s.rows sizes.bands.0 sizes.rows.0 in
    let all : 1 * 1 * 1 ≤ s.bands * s.rows * s.columns = mul-le (1 * 1) 1 (s.bands * s.rows) s.columns lines sizes.columns.0 in
    omega (arith, all)

-- what is known of it; `s` are the sizes of the image by its rows
pub record IsRow (s : Sizes) (k : SampleKind) (l : Layout) (r : Image) (bytes samples : List ℕ) : Type 0 where
  pub shape : r.shape ≡ one_row s
  pub kind : r.kind ≡ k
  pub raw : raw_bytes r l ≡ bytes
  pub fits : HaveBytes r l (samples_of_row s)
  pub known : AreSamples k l bytes (samples_of_row s)
  pub copied : AreBandRows r samples
  pub long : length samples ≡ samples_of_row s

pub row_is : (s : Sizes) (k j : SampleKind) (l : Layout) (r : Image) (bytes samples : List ℕ) → j ≡ k → length samples ≡ samples_of_row s
    → IsCube r × (r.shape ≡ one_row s) × (r.kind ≡ j) × (raw_bytes r l ≡ bytes) × HaveBytes r l (samples_of_row s) × AreSamples j l bytes (samples_of_row s)
    × AreBandRows r samples
    → IsRow s k l r bytes samples
row_is s k j l r bytes samples same long (cube, shape, kind, raw, fits, known, copied) = record {
  shape = shape;
  kind = kind ∙ same;
  raw = raw;
  fits = fits;
  known = rw same at known;
  copied = copied;
  long = long;
}

-- its offsets are below 2^D
row_range : (limit : ℕ) (xs : List ℕ) → ((i : ℕ) → i < length xs → get_or xs i 0 < limit) → AllByRecursion (λ v. v < limit) xs
row_range limit [] each = tt
row_range limit (x ∷ xs) each = (each 0 (omega arith), row_range limit xs (λ i lt. each (suc i) (omega (arith, lt))))

module _ (s : Sizes) (k : SampleKind) (l : Layout) (r : Image) (bytes samples : List ℕ) (row : IsRow s k l r bytes samples) where
  pub band_value : (z x : ℕ) → z < s.bands → x < s.columns
      → (slice_index samples (z * s.columns + x) < 2 ^ k.bits) × (sample_at r z 0 x ≡ sample_of k (slice_index samples (z * s.columns + x)))
  band_value z x band column =
      let here = row.copied z x (subst (λ (t : Sizes). z < t.bands) (sym row.shape) band) (subst (λ (t : Sizes). x < t.columns) (sym row.shape) column) in
      let width : r.shape.columns ≡ s.columns = ap (λ (t : Sizes). t.columns) row.shape in
      let index : slice_index samples (z * r.shape.columns + x) ≡ slice_index samples (z * s.columns + x) =
      ap (λ (n : ℕ). slice_index samples (z * n + x)) width in (
        subst (λ (j : SampleKind). slice_index samples (z * s.columns + x) < 2 ^ j.bits) row.kind (subst (λ (v : ℕ). v < 2 ^ r.kind.bits) index here.0),
        here.1 ∙ ap (sample_of r.kind) index ∙ ap (λ (j : SampleKind). sample_of j (slice_index samples (z * s.columns + x))) row.kind,
      )

  in_range : (i : ℕ) → i < length samples → get_or samples i 0 < 2 ^ k.bits
  in_range i lt =
      let some : 0 < s.columns = some_of s.bands s.columns i (rw row.long at lt) in
      let band : i / s.columns < s.bands = div_below i s.columns s.bands some (omega (arith, lt, row.long)) in
      rw (div-add-mod' i s.columns) at (band_value (i / s.columns) (i % s.columns) band (mod_below i s.columns some)).0
    where
      some_of : (a b i : ℕ) → i < a * b → 0 < b
      some_of a zero i h = absurd (omega (arith, h))
      some_of a (suc b) i h = omega arith

  pub all_in_range : AllByRecursion (λ v. v < 2 ^ k.bits) samples
  all_in_range = row_range (2 ^ k.bits) samples in_range

-- ---- one row more

-- the band of a place is one of its row
band_there : (o : Order) (s : Sizes) (z y x : ℕ) → IsPlace s z y x → band_in_row o z < (rows_of_order o s).bands
band_there Bsq s z y x place = omega arith
band_there (Bi depth) s z y x place = place.band

module _ (p : Params) (l : Layout) (offsets : List ℕ) (y : ℕ) (before : List ℕ) (lawful : IsLawful p) (layout : IsLayout l) (together : GoTogether l.order p.order)
    (size : length offsets ≡ y * samples_of_row (rows_of_raw l.order p.shape)) (range : AllByRecursion (λ v. v < 2 ^ p.kind.bits) offsets)
    (found : IsFound p.shape p.kind l before (y * samples_of_row (rows_of_raw l.order p.shape)) (Ok (image_so_far p offsets)))
    (more : y < (rows_of_raw l.order p.shape).rows) (r : Image) (bytes samples : List ℕ)
    (row : IsRow (rows_of_raw l.order p.shape) p.kind l r bytes samples) where
  pub range_next : AllByRecursion (λ v. v < 2 ^ p.kind.bits) (offsets ++ samples)
  range_next = all_append (λ v. v < 2 ^ p.kind.bits) offsets samples range (all_in_range (rows_of_raw l.order p.shape) p.kind l r bytes samples row)

  pub size_next : length (offsets ++ samples) ≡ (y + 1) * samples_of_row (rows_of_raw l.order p.shape)
  size_next =
      let next : (y + 1) * samples_of_row (rows_of_raw l.order p.shape) ≡ y * samples_of_row (rows_of_raw l.order p.shape) + samples_of_row (rows_of_raw l.order p.shape) = grind arith in
      omega (arith, length-append offsets samples, size, row.long, next)

  sizes_same : rows_of_raw l.order p.shape ≡ rows_of_order p.order p.shape
  sizes_same = same_rows l.order p.order p.shape together

  size_in : length offsets ≡ y * samples_of_row (rows_of_order p.order p.shape)
  size_in = size ∙ ap (λ (t : Sizes). y * samples_of_row t) sizes_same

  earlier : (z y' x : ℕ) → IsPlace p.shape z y' x → row_number l.order p.shape z y' < y
      → sample_at (image_so_far p offsets) z y' x ≡ sample_at (image_so_far p (offsets ++ samples)) z y' x
  earlier z y' x place lt =
      earlier_same p.order p.shape p.kind offsets samples y size_in z y' x place (rw (same_row l.order p.order p.shape z y' together) at lt)

  there : (z y' x : ℕ) → IsPlace p.shape z y' x → row_number l.order p.shape z y' ≡ y
      → sample_at (image_so_far p (offsets ++ samples)) z y' x ≡ sample_at r (raw_band l.order z) 0 x
  there z y' x place here =
      let wide : (rows_of_raw l.order p.shape).columns ≡ p.shape.columns = same_columns l.order p.shape in
      let band : band_in_row p.order z < (rows_of_raw l.order p.shape).bands = rw sizes_same (band_there p.order p.shape z y' x place) in
      let column : x < (rows_of_raw l.order p.shape).columns = rw wide place.column in
      let value = (band_value (rows_of_raw l.order p.shape) p.kind l r bytes samples row (band_in_row p.order z) x band column).1 in
      let index : band_in_row p.order z * (rows_of_raw l.order p.shape).columns + x ≡ band_in_row p.order z * p.shape.columns + x =
      ap (λ (n : ℕ). band_in_row p.order z * n + x) wide in
      row_there p.order p.shape p.kind offsets samples y size_in z y' x place (sym (same_row l.order p.order p.shape z y' together) ∙ here)
      ∙ ap (λ (i : ℕ). sample_of p.kind (get_or samples i 0)) (sym index)
      ∙ sym value
      ∙ ap (λ (b : ℕ). sample_at r b 0 x) (sym (same_band l.order p.order z together))

  pub found_next : IsFound p.shape p.kind l (before ++ bytes)
      (y * samples_of_row (rows_of_raw l.order p.shape) + samples_of_row (rows_of_raw l.order p.shape)) (Ok (image_so_far p (offsets ++ samples)))
  found_next = row_found p.shape p.kind l (image_so_far p offsets) (image_so_far p (offsets ++ samples)) r y before bytes layout
      (some_samples p.shape lawful.sizes) more found (cube_so_far p (offsets ++ samples) lawful range_next)
      (shape_in p.order p.shape p.kind (offsets ++ samples)) (kind_in p.order p.shape p.kind (offsets ++ samples))
      row.shape row.kind row.raw row.fits row.known earlier there
