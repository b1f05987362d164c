-- An image of which one more row has come in raw bytes.
use Rattle.std.proofs.Common.{◌≡◌, ◌+◌, ◌*◌, ◌-◌, ◌<◌, ◌≤◌, ℕ, suc, zero, ℤ, pos, List, ◌++◌, length, take, drop, get_or, Ok}
use Rattle.std.proofs.Common.{refl, sym, ap, ◌∙◌, subst, arith, inl, inr, length-append, length-take}
use Rattle.std.proofs.lemmas.Bool.{cases_lt}
use Rattle.std.proofs.lemmas.Nat.{mul-le}
use Rattle.cube_core.specs.declared.layout.Layout.{Layout}
use Rattle.cube_core.specs.declared.order.Order.{Order}
use Rattle.cube_core.specs.declared.order.Place.{Place}
use Rattle.cube_core.specs.Image.{Image, IsCube, IsPlace, sample_at}
use Rattle.cube_core.specs.Kind.{SampleKind}
use Rattle.cube_core.specs.Layout.{IsLayout, HasBytes, HasBytesAt, HaveBytes, order_of, raw_bytes, sample_bytes, samples_in}
use Rattle.cube_core.specs.Order.{IsOrder, place_index}
use Rattle.cube_core.specs.Raw.{AreSamples, IsFound}
use Rattle.cube_core.specs.Shape.{Sizes, sample_count}
use Rattle.cube_core.proofs.Orders.{StandsAt, place_index_below}
use Rattle.cube_core.proofs.PartBytes.{bytes_of_place, front_piece, piece_after, piece_before, same_pieces, samples_follow}
use Rattle.cube_core.proofs.RawBytes.{length-raw_bytes}
use Rattle.cube_core.proofs.Raws.{bytes_there, lawful_order, place_of}
use Rattle.cube_core.proofs.Written.{sample_there}
use Rattle.raw_rows.specs.OneRow.{band_in_row, one_row, row_number, rows_of_raw, samples_of_row}
use Rattle.raw_rows.proofs.RowSizes.{count_by_row, index_by_row, place_in_row, row_place, same_count}

-- ---- the sample and the bytes of a place

bytes_of : (c : Image) (s : Sizes) (l : Layout) (p : Place) (i : ℕ) → c.shape ≡ s → IsLayout l → 0 < sample_count s → StandsAt s (order_of l.order s) p i
    → take l.bytes (drop (i * l.bytes) (raw_bytes c l)) ≡ sample_bytes l (sample_at c p.z p.y p.x)
bytes_of c s l p i shape layout some stands = bytes_of_place c l p i layout (rw shape some) (rw shape stands)

sample_of : (c : Image) (s : Sizes) (l : Layout) (p : Place) (i : ℕ) → c.shape ≡ s → IsOrder s (order_of l.order s) → i < sample_count s
    → StandsAt s (order_of l.order s) p i → get_or (samples_in c l) i (pos 0) ≡ sample_at c p.z p.y p.x
sample_of c s l p i shape lawful lt stands = sample_there c l p i (rw shape lawful) (rw shape lt) (rw shape stands)

fits_at : (c : Image) (k : SampleKind) (l : Layout) (i : ℕ) (v : ℤ) → c.kind ≡ k → get_or (samples_in c l) i (pos 0) ≡ v → HasBytes k l v → HasBytesAt c l i
fits_at c k l i v kind sample fits = rw (sample, kind) fits

fits_from : (c : Image) (k : SampleKind) (l : Layout) (i : ℕ) (v : ℤ) → c.kind ≡ k → get_or (samples_in c l) i (pos 0) ≡ v → HasBytesAt c l i → HasBytes k l v
fits_from c k l i v kind sample fits = rw (sample, kind) at fits

some_in_row : (bands rows columns : ℕ) → 0 < bands * rows * columns → 0 < bands * 1 * columns
some_in_row bands rows zero h = absurd (omega (arith, h))
some_in_row zero rows (suc columns) h = absurd (omega (arith, h))
some_in_row (suc bands) rows (suc columns) h = omega arith

raw_long : (c : Image) (s : Sizes) (l : Layout) → c.shape ≡ s → IsLayout l → 0 < sample_count s → length (raw_bytes c l) ≡ sample_count s * l.bytes
raw_long c s l shape layout some = length-raw_bytes c l layout (rw shape some) ∙ ap (λ (t : Sizes). sample_count t * l.bytes) shape

-- ---- one more row

module _ (s : Sizes) (k : SampleKind) (l : Layout) (c d r : Image) (y : ℕ) (before bytes : List ℕ) (layout : IsLayout l) (some : 0 < sample_count s)
    (row : y < (rows_of_raw l.order s).rows) (found : IsFound s k l before (y * samples_of_row (rows_of_raw l.order s)) (Ok c)) (cube : IsCube d)
    (shape : d.shape ≡ s) (kind : d.kind ≡ k) (row_shape : r.shape ≡ one_row (rows_of_raw l.order s)) (row_kind : r.kind ≡ k) (row_raw : raw_bytes r l ≡ bytes)
    (row_fits : HaveBytes r l (samples_of_row (rows_of_raw l.order s))) (row_samples : AreSamples k l bytes (samples_of_row (rows_of_raw l.order s)))
    (same : (z y' x : ℕ) → IsPlace s z y' x → row_number l.order s z y' < y → sample_at c z y' x ≡ sample_at d z y' x)
    (there : (z y' x : ℕ) → IsPlace s z y' x → row_number l.order s z y' ≡ y → sample_at d z y' x ≡ sample_at r (band_in_row l.order z) 0 x) where
  -- the sizes of a row
  row_sizes : Sizes
  row_sizes = one_row (rows_of_raw l.order s)

  size : ℕ
  size = samples_of_row (rows_of_raw l.order s)

  start : ℕ
  start = y * size

  row_end : start + size ≤ sample_count s
  unfolding size start
  row_end =
      let lines : Sizes = rows_of_raw l.order s in
      let low : suc y * samples_of_row lines ≤ lines.rows * samples_of_row lines =
      mul-le (suc y) (samples_of_row lines) lines.rows (samples_of_row lines) row (omega arith) in
      let next : suc y * samples_of_row lines ≡ y * samples_of_row lines + samples_of_row lines = grind arith in
      omega (arith, low, next, count_by_row l.order s)

  same_shape : r.shape ≡ row_sizes
  unfolding row_sizes
  same_shape = row_shape

  row_count : sample_count row_sizes ≡ size
  unfolding row_sizes size
  row_count = grind arith

  row_some : 0 < sample_count row_sizes
  unfolding row_sizes
  row_some =
      let lines : Sizes = rows_of_raw l.order s in
      some_in_row lines.bands lines.rows lines.columns (rw same_count some)

  -- ---- the place that stands at an index

  order : Order
  order = order_of l.order s

  lawful : IsOrder s order
  unfolding order
  lawful = lawful_order l.order s some

  row_order : IsOrder row_sizes (order_of l.order row_sizes)
  row_order = lawful_order l.order row_sizes row_some

  -- which row a place is in, and where it stands there
  number : Place → ℕ
  number p = row_number l.order s p.z p.y

  in_row : Place → ℕ
  in_row p = place_index row_sizes (order_of l.order row_sizes) (row_place l.order p)

  module _ (p : Place) (i : ℕ) (stands : StandsAt s order p i) where
    row_there : StandsAt row_sizes (order_of l.order row_sizes) (row_place l.order p) (in_row p)
    unfolding row_sizes in_row
    row_there = record { place = place_in_row l.order s p.z p.y p.x stands.place; index = refl }

    in_row_below : in_row p < size
    unfolding in_row
    in_row_below = rw row_count at (place_index_below row_sizes (order_of l.order row_sizes) (row_place l.order p) row_order row_there.place)

    index_is : i ≡ number p * size + in_row p
    unfolding in_row size order row_sizes number
    index_is = sym stands.index ∙ index_by_row l.order s p

    is_before : i < start → number p < y
    unfolding start
    is_before lt = elim (cases_lt (number p) y) [
      | inl early ↦ early
      | inr late ↦ absurd (omega (arith, lt, index_is, mul-le y size (number p) size late (omega arith)))
    ]

    is_here : start ≤ i → i < start + size → (number p ≡ y) × (i - start ≡ in_row p)
    unfolding start
    is_here ge lt =
        let low : number p ≤ y = elim (cases_lt y (number p)) [
          | inl late ↦
              (let far : suc y * size ≤ number p * size = mul-le (suc y) size (number p) size late (omega arith) in
              let next : suc y * size ≡ y * size + size = grind arith in
              absurd (omega (arith, far, next, lt, index_is)))
          | inr early ↦ early
        ] in
        let high : y ≤ number p = elim (cases_lt (number p) y) [
          | inl early ↦
              (let near : suc (number p) * size ≤ y * size = mul-le (suc (number p)) size y size early (omega arith) in
              let next : suc (number p) * size ≡ number p * size + size = grind arith in
              absurd (omega (arith, near, next, ge, index_is, in_row_below)))
          | inr late ↦ late
        ] in
        let same : number p ≡ y = omega (arith, low, high) in
        let through : number p * size ≡ y * size = ap (λ (n : ℕ). n * size) same in
        (same, omega (arith, through, index_is))

  -- ---- its bytes

  known : IsCube c × (c.shape ≡ s) × (c.kind ≡ k) × (take (start * l.bytes) (raw_bytes c l) ≡ before) × HaveBytes c l start × AreSamples k l before start
  unfolding start size
  known = found.cube

  before_long : length before ≡ start * l.bytes
  unfolding start size
  before_long = found.long

  bytes_long : length bytes ≡ size * l.bytes
  bytes_long = sym (ap length row_raw) ∙ raw_long r row_sizes l same_shape layout row_some ∙ ap (λ (n : ℕ). n * l.bytes) row_count

  bytes_before : (p : Place) (i : ℕ) → StandsAt s order p i → i < start
      → take l.bytes (drop (i * l.bytes) (before ++ bytes)) ≡ sample_bytes l (sample_at d p.z p.y p.x)
  unfolding order number
  bytes_before p i stands lt =
      let (whole, shape_c, kind_c, raw_c, have, samples) = known in
      let fits = bytes_there l i start layout lt in
      piece_before i l.bytes (start * l.bytes) before bytes before_long fits
      ∙ ap (λ (xs : List ℕ). take l.bytes (drop (i * l.bytes) xs)) (sym raw_c)
      ∙ front_piece i l.bytes (start * l.bytes) (raw_bytes c l) fits
      ∙ bytes_of c s l p i shape_c layout some stands
      ∙ ap (sample_bytes l) (same p.z p.y p.x stands.place (is_before p i stands lt))

  bytes_here : (p : Place) (i : ℕ) → StandsAt s order p i → start ≤ i → i < start + size
      → take l.bytes (drop (i * l.bytes) (before ++ bytes)) ≡ sample_bytes l (sample_at d p.z p.y p.x)
  unfolding number
  bytes_here p i stands ge lt =
      let (row_is, rest) = is_here p i stands ge lt in
      let back : start + (i - start) ≡ i = omega (arith, ge) in
      let piece : take l.bytes (drop (i * l.bytes) (before ++ bytes)) ≡ take l.bytes (drop ((i - start) * l.bytes) bytes) =
      rw back at (piece_after start (i - start) l.bytes before bytes before_long) in
      let sample : sample_at d p.z p.y p.x ≡ sample_at r (band_in_row l.order p.z) 0 p.x = there p.z p.y p.x stands.place row_is in
      piece ∙ ap (λ (n : ℕ). take l.bytes (drop (n * l.bytes) bytes)) rest
      ∙ ap (λ (xs : List ℕ). take l.bytes (drop (in_row p * l.bytes) xs)) (sym row_raw)
      ∙ bytes_of r row_sizes l (row_place l.order p) (in_row p) same_shape layout row_some (row_there p i stands)
      ∙ ap (sample_bytes l) (sym sample)

  raw_now : take ((start + size) * l.bytes) (raw_bytes d l) ≡ before ++ bytes
  unfolding order
  raw_now = same_pieces (start + size) l.bytes (take ((start + size) * l.bytes) (raw_bytes d l)) (before ++ bytes) front_long
      (omega (arith, length-append before bytes, before_long, bytes_long)) each
    where
      all_long : length (raw_bytes d l) ≡ sample_count s * l.bytes
      all_long = raw_long d s l shape layout some

      front_long : length (take ((start + size) * l.bytes) (raw_bytes d l)) ≡ (start + size) * l.bytes
      front_long = omega (arith, length-take ((start + size) * l.bytes) (raw_bytes d l), all_long, mul-le (start + size) l.bytes (sample_count s) l.bytes row_end (omega arith))

      each : (i : ℕ) → i < start + size
          → take l.bytes (drop (i * l.bytes) (take ((start + size) * l.bytes) (raw_bytes d l))) ≡ take l.bytes (drop (i * l.bytes) (before ++ bytes))
      each i lt =
          let (p, stands) = place_of s order i lawful (omega (arith, lt, row_end)) in
          let mine : take l.bytes (drop (i * l.bytes) (take ((start + size) * l.bytes) (raw_bytes d l))) ≡ sample_bytes l (sample_at d p.z p.y p.x) =
          front_piece i l.bytes ((start + size) * l.bytes) (raw_bytes d l) (bytes_there l i (start + size) layout lt)
          ∙ bytes_of d s l p i shape layout some stands in
          mine ∙ sym (elim (cases_lt i start) [ inl early ↦ bytes_before p i stands early | inr late ↦ bytes_here p i stands late lt ])

  -- ---- its sample fits

  before_fits : (p : Place) (i : ℕ) → StandsAt s order p i → i < start → HasBytes k l (sample_at d p.z p.y p.x)
  unfolding order number
  before_fits p i stands lt =
      let (whole, shape_c, kind_c, raw_c, have, samples) = known in
      let old : get_or (samples_in c l) i (pos 0) ≡ sample_at c p.z p.y p.x = sample_of c s l p i shape_c lawful (omega (arith, lt, row_end)) stands in
      subst (HasBytes k l) (same p.z p.y p.x stands.place (is_before p i stands lt)) (fits_from c k l i (sample_at c p.z p.y p.x) kind_c old (have i lt))

  here_fits : (p : Place) (i : ℕ) → StandsAt s order p i → start ≤ i → i < start + size → HasBytes k l (sample_at d p.z p.y p.x)
  unfolding order number size
  here_fits p i stands ge lt =
      let (row_is, rest) = is_here p i stands ge lt in
      let sample : sample_at d p.z p.y p.x ≡ sample_at r (band_in_row l.order p.z) 0 p.x = there p.z p.y p.x stands.place row_is in
      let below : in_row p < sample_count row_sizes = rw row_count (in_row_below p i stands) in
      let new : get_or (samples_in r l) (in_row p) (pos 0) ≡ sample_at r (band_in_row l.order p.z) 0 p.x =
      sample_of r row_sizes l (row_place l.order p) (in_row p) same_shape row_order below (row_there p i stands) in
      subst (HasBytes k l) (sym sample) (fits_from r k l (in_row p) (sample_at r (band_in_row l.order p.z) 0 p.x) row_kind new (row_fits (in_row p) (in_row_below p i stands)))

  fits_now : HaveBytes d l (start + size)
  unfolding order
  fits_now i lt =
      let inside : i < sample_count s = omega (arith, lt, row_end) in
      let (p, stands) = place_of s order i lawful inside in
      let mine : get_or (samples_in d l) i (pos 0) ≡ sample_at d p.z p.y p.x =
      sample_of d s l p i shape lawful inside stands in
      fits_at d k l i (sample_at d p.z p.y p.x) kind mine (elim (cases_lt i start) [
        | inl early ↦ before_fits p i stands early
        | inr late ↦ here_fits p i stands late lt
      ])

  pub row_found : IsFound s k l (before ++ bytes) (y * samples_of_row (rows_of_raw l.order s) + samples_of_row (rows_of_raw l.order s)) (Ok d)
  unfolding start size
  row_found =
      let (whole, shape_c, kind_c, raw_c, have, samples) = known in
      record {
        long = omega (arith, length-append before bytes, before_long, bytes_long);
        cube = (cube, shape, kind, raw_now, fits_now, samples_follow k l before bytes start size before_long samples row_samples);
        bad = tt;
      }
