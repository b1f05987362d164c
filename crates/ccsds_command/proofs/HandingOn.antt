-- Rows that are handed over one after another, out of the raw bytes of several.
use Rattle.std.proofs.Common.{◌≡◌, ◌⊎◌, ◌+◌, ◌-◌, ◌*◌, ◌^◌, ◌<◌, ◌≤◌, ℕ, List, ◌++◌, inl, inr, length, take, drop, refl, sym, ap, ◌∙◌, subst, arith, append_assoc, append-nil}
use Rattle.std.proofs.Math.Seq.{take-add}
use Rattle.std.proofs.lemmas.List.{take_all, take-append-drop}
use Rattle.std.proofs.lemmas.Nat.{mul-le}
use Rattle.std.proofs.Common.{length-take, length-drop}
use Rattle.cube_core.specs.declared.fault.Fault.{Fault}
use Rattle.cube_core.specs.declared.fault.Fault.TheVariants.{SampleRange, WantOfMemory}
use Rattle.cube_core.specs.declared.layout.Layout.{Layout}
use Rattle.cube_core.specs.Kind.{SampleKind}
use Rattle.cube_core.specs.declared.layout.RawOrder.TheVariants.{Bsq}
use Rattle.cube_core.specs.Image.{Image, IsCube}
use Rattle.cube_core.specs.Layout.{HaveBytes, IsFirstBad, IsLayout, raw_bytes}
use Rattle.cube_core.specs.Offsets.{AreRowOffsets}
use Rattle.cube_core.specs.Shape.{AreSizes, Sizes, sample_count}
use Rattle.cube_core.proofs.RawBytes.{image}
use Rattle.cube_core.specs.Raw.{AreSamples, IsBadSample}
use Rattle.cube_core.proofs.PartBytes.{bad_follows, bad_stays, samples_follow}
use Rattle.file_encoding.specs.ByRows.{RowEncoderState}
use Rattle.file_encoding.proofs.FoundRows.{IsRow}
use Rattle.raw_rows.specs.OneRow.{AreBandRows, one_row, rows_of_raw, samples_of_row}
use Rattle.raw_rows.proofs.RowSizes.{same_columns}
use Rattle.raw_streams.specs.Rows.{row_bytes, rows_in, samples_in_row}
use Rattle.raw_streams.proofs.RowStreams.{index_small, rows_fit}
use Rattle.raw_streams.specs.Joined.{IsFront}
use Rattle.raw_streams.proofs.WideRows.{piece_is_row}
use Rattle.command_words.specs.declared.settings.CompressSettings.{CompressSettings}
use Rattle.ccsds_command.specs.ByRows.{AreOfRows}
use Rattle.ccsds_command.specs.Taking.{IsJoined}

-- the raw bytes of the i-th of some rows of so many bytes
abbrev pub line_of : ℕ → ℕ → List ℕ → List ℕ
line_of i size bytes = take ((i + 1) * size - i * size) (drop (i * size) bytes)

line_long : (i size : ℕ) → (i + 1) * size - i * size ≡ size
line_long i size =
    let next : (i + 1) * size ≡ i * size + size = grind arith in
    omega (arith, next)

-- a row is among them
pub line_inside : (i count size : ℕ) → i < count → (i * size ≤ (i + 1) * size) × ((i + 1) * size ≤ count * size)
line_inside i count size lt = (
  mul-le i size (i + 1) size (omega arith) (omega arith),
  mul-le (i + 1) size count size (omega (arith, lt)) (omega arith),
)

pub line_size : (i count size : ℕ) (bytes : List ℕ) → i < count → length bytes ≡ count * size → length (line_of i size bytes) ≡ size
line_size i count size bytes lt long = omega (
  arith,
  line_long i size,
  length-take ((i + 1) * size - i * size) (drop (i * size) bytes),
  length-drop (i * size) bytes,
  line_inside i count size lt,
  long,
)

-- the bytes of rows of a scene are few
pub bytes_small : (s : Sizes) (l : Layout) (y count : ℕ) → AreSizes s → IsLayout l → y + count ≤ rows_in s l
    → count * row_bytes s l ≤ 65536 * 65536 * 65536 * 2 + 1
bytes_small s l y count sizes layout inside =
    let planes : s.bands * s.rows ≤ 65536 * 65536 = mul-le s.bands s.rows 65536 65536 sizes.bands.1 sizes.rows.1 in
    let all : sample_count s ≤ 65536 * 65536 * 65536 = mul-le (s.bands * s.rows) s.columns (65536 * 65536) 65536 planes sizes.columns.1 in
    let few : sample_count s * l.bytes ≤ 65536 * 65536 * 65536 * 2 = mul-le (sample_count s) l.bytes (65536 * 65536 * 65536) 2 all (most layout) in
    omega (arith, rows_fit s l y count inside, few)
  where
    most : IsLayout l → l.bytes ≤ 2
    most (inl e) = omega (arith, e)
    most (inr e) = omega (arith, e)

pub line_small : (s : Sizes) (l : Layout) (y i count size : ℕ) → AreSizes s → IsLayout l → y + count ≤ rows_in s l → i < count
    → size ≡ samples_in_row s l → (i + 1) * (size * l.bytes) ≤ 65536 * 65536 * 65536 * 2 + 1
line_small s l y i count size sizes layout inside lt size_is =
    rw size_is (omega (arith, (line_inside i count (row_bytes s l) lt).1, bytes_small s l y count sizes layout inside))

-- a row ends among them
pub line_end : (s : Sizes) (l : Layout) (i count size : ℕ) (bytes : List ℕ) → i < count → size ≡ samples_in_row s l → length bytes ≡ count * row_bytes s l
    → (i + 1) * (size * l.bytes) ≤ length bytes
line_end s l i count size bytes lt size_is long = rw (size_is, long) (line_inside i count (row_bytes s l) lt).1

-- some of the rows that there is room for
pub in_room : (count most size length had : ℕ) → count ≤ most → length ≡ size → had ≡ most * size → count * length ≤ had
in_room count most size length had few length_is room = rw (length_is, room) (mul-le count size most size few (omega arith))

-- the rows before it
pub lines_size : (i count size : ℕ) (bytes : List ℕ) → i < count → length bytes ≡ count * size → length (take (i * size) bytes) ≡ i * size
lines_size i count size bytes lt long = omega (arith, length-take (i * size) bytes, line_inside i count size lt, long)

-- and with it
pub with_line : (i size : ℕ) (bytes : List ℕ) → take (i * size) bytes ++ line_of i size bytes ≡ take ((i + 1) * size) bytes
with_line i size bytes =
    let next : (i + 1) * size ≡ i * size + size = grind arith in
    rw (line_long i size, next) (sym (take-add (i * size) size bytes))

-- ---- before the first row, and after the last one

pub no_lines : (s : CompressSettings) (e : RowEncoderState) (size : ℕ) (bytes before : List ℕ) → AreOfRows s e before
    → AreOfRows s e (before ++ take (0 * size) bytes)
no_lines s e size bytes before found =
    let none : 0 * size ≡ 0 = omega arith in
    rw (none, append-nil before) found

pub no_samples : (k : SampleKind) (l : Layout) (bytes : List ℕ) (n : ℕ) → AreSamples k l bytes (0 * n)
no_samples k l bytes n j lt = absurd (omega (arith, lt))

pub all_lines : (count i size : ℕ) (bytes : List ℕ) → i ≡ count → length bytes ≡ count * size → take (i * size) bytes ≡ bytes
all_lines count i size bytes last long = take_all (i * size) bytes (rw last (omega (arith, long)))

-- ---- one row more

pub lines_next : (s : CompressSettings) (old now next : RowEncoderState) (i size : ℕ) (bytes : List ℕ)
    → ((before : List ℕ) → AreOfRows s old before → AreOfRows s now (before ++ take (i * size) bytes))
    → ((before : List ℕ) → AreOfRows s now before → AreOfRows s next (before ++ line_of i size bytes))
    → (before : List ℕ) → AreOfRows s old before → AreOfRows s next (before ++ take ((i + 1) * size) bytes)
lines_next s old now next i size bytes first more before found =
    subst (AreOfRows s next) (append_assoc before (take (i * size) bytes) (line_of i size bytes) ∙ ap (λ (xs : List ℕ). before ++ xs) (with_line i size bytes))
    (more (before ++ take (i * size) bytes) (first before found))

module _ (k : SampleKind) (l : Layout) (i count n size : ℕ) (bytes : List ℕ) (lt : i < count) (row : size ≡ n * l.bytes) (long : length bytes ≡ count * size)
    (known : AreSamples k l (take (i * size) bytes) (i * n)) where
  lines_long : length (take (i * size) bytes) ≡ i * n * l.bytes
  lines_long = lines_size i count size bytes lt long ∙ ap (λ (m : ℕ). i * m) row ∙ grind arith

  pub samples_next : AreSamples k l (line_of i size bytes) n → AreSamples k l (take ((i + 1) * size) bytes) ((i + 1) * n)
  samples_next more =
      let next : i * n + n ≡ (i + 1) * n = grind arith in
      subst (λ (m : ℕ). AreSamples k l (take ((i + 1) * size) bytes) m) next (subst (λ (xs : List ℕ). AreSamples k l xs (i * n + n)) (with_line i size bytes)
      (samples_follow k l (take (i * size) bytes) (line_of i size bytes) (i * n) n lines_long known more))

  -- the first bad sample of a row is that of all
  pub bad_in_line : (j : ℕ) → IsFirstBad k l (line_of i size bytes) j → IsBadSample k l bytes (SampleRange (i * n + j))
  bad_in_line j first =
      let here : IsFirstBad k l (take (i * size) bytes ++ line_of i size bytes) (i * n + j) =
      bad_follows k l (take (i * size) bytes) (line_of i size bytes) (i * n) j lines_long known first in
      let rest : List ℕ = drop ((i + 1) * size) bytes in
      let all : (take (i * size) bytes ++ line_of i size bytes) ++ rest ≡ bytes =
      ap (λ (xs : List ℕ). xs ++ rest) (with_line i size bytes) ∙ take-append-drop ((i + 1) * size) bytes in
      subst (λ (xs : List ℕ). IsBadSample k l xs (SampleRange (i * n + j))) all
      (bad_stays k l (take (i * size) bytes ++ line_of i size bytes) rest (SampleRange (i * n + j)) (i * n + j, refl, here))

-- ---- rows that are taken one by one

pub taken_row : (s : Sizes) (k : SampleKind) (l : Layout) (row r : Image) (bytes samples : List ℕ) → row.shape ≡ one_row s → row.kind ≡ k
    → length samples ≡ samples_of_row s
    → IsCube r × (r.shape ≡ row.shape) × (r.kind ≡ row.kind) × (raw_bytes r l ≡ bytes) × HaveBytes r l (samples_of_row row.shape)
    × AreSamples row.kind l bytes (samples_of_row row.shape) × AreBandRows r samples
    → IsRow s k l r bytes samples
taken_row s k l row r bytes samples shape kind long (cube, shape_is, kind_is, raw, fits, known, copied) = record {
  shape = shape_is ∙ shape;
  kind = kind_is ∙ kind;
  raw = raw;
  fits = rw shape at fits;
  known = rw (shape, kind) at known;
  copied = copied;
  long = long;
}

-- one of them, of which the number of samples is `size`
module _ (s : CompressSettings) (row : Image) (i count size : ℕ) (bytes : List ℕ) (shape : row.shape ≡ one_row (rows_of_raw s.layout.order s.params.shape))
    (kind : row.kind ≡ s.params.kind) (size_is : size ≡ samples_in_row s.params.shape s.layout) (lt : i < count)
    (long : length bytes ≡ count * row_bytes s.params.shape s.layout)
    (known : AreSamples s.params.kind s.layout (take (i * row_bytes s.params.shape s.layout) bytes) (i * samples_in_row s.params.shape s.layout)) where
  pub single_row : (r : Image) (samples : List ℕ) → length samples ≡ samples_in_row s.params.shape s.layout
      → IsCube r × (r.shape ≡ row.shape) × (r.kind ≡ row.kind) × (raw_bytes r s.layout ≡ line_of i (size * s.layout.bytes) bytes)
      × HaveBytes r s.layout (samples_of_row row.shape)
      × AreSamples row.kind s.layout (line_of i (size * s.layout.bytes) bytes) (samples_of_row row.shape) × AreBandRows r samples
      → IsRow (rows_of_raw s.layout.order s.params.shape) s.params.kind s.layout r (line_of i (row_bytes s.params.shape s.layout) bytes) samples
  single_row r samples whole taken =
      subst (λ (n : ℕ). IsRow (rows_of_raw s.layout.order s.params.shape) s.params.kind s.layout r (line_of i (n * s.layout.bytes) bytes) samples) size_is
      (taken_row (rows_of_raw s.layout.order s.params.shape) s.params.kind s.layout row r (line_of i (size * s.layout.bytes) bytes) samples shape kind whole
      taken)

  bad_there : (j : ℕ) → IsFirstBad row.kind s.layout (line_of i (size * s.layout.bytes) bytes) j
      → IsFirstBad s.params.kind s.layout (line_of i (row_bytes s.params.shape s.layout) bytes) j
  bad_there j first =
      subst (λ (n : ℕ). IsFirstBad s.params.kind s.layout (line_of i (n * s.layout.bytes) bytes) j) size_is
      (subst (λ (k : SampleKind). IsFirstBad k s.layout (line_of i (size * s.layout.bytes) bytes) j) kind first)

  pub single_bad : (j : ℕ) → IsFirstBad row.kind s.layout (line_of i (size * s.layout.bytes) bytes) j
      → IsBadSample s.params.kind s.layout bytes (SampleRange (i * size + j))
  single_bad j first =
      subst (λ (n : ℕ). IsBadSample s.params.kind s.layout bytes (SampleRange (i * n + j))) (sym size_is)
      (bad_in_line s.params.kind s.layout i count (samples_in_row s.params.shape s.layout) (row_bytes s.params.shape s.layout) bytes lt refl long known j
      (bad_there j first))

  -- its index is small
  pub single_small : (y j : ℕ) → AreSizes s.params.shape → IsLayout s.layout → y + count ≤ rows_in s.params.shape s.layout
      → IsFirstBad row.kind s.layout (line_of i (size * s.layout.bytes) bytes) j → i * size + j < 2 ^ 64
  single_small y j sizes layout inside first =
      let bad = single_bad j first in
      let same : i * size + j ≡ bad.0 = same_index (i * size + j) bad.0 bad.1 in
      omega (arith, same, index_small s.params.shape s.layout y count bad.0 (length bytes) sizes layout inside long bad.2.there)
    where
      same_index : (a b : ℕ) → SampleRange a ≡ SampleRange b → a ≡ b
      same_index a b h = cc

-- ---- rows of one band that are taken together

line_is : (i n : ℕ) (xs : List ℕ) → line_of i n xs ≡ take n (drop (i * n) xs)
line_is i n xs = ap (λ (m : ℕ). take m (drop (i * n) xs)) (line_long i n)

joined_row : (s : Sizes) (k : SampleKind) (l : Layout) (c : Image) (i count size columns : ℕ) (bytes offsets : List ℕ) → IsLayout l → l.order ≡ Bsq
    → (c.shape.bands ≡ 1) × (c.shape.rows ≡ 1) → c.kind ≡ k → s.bands ≡ 1 → 0 < s.columns → count * s.columns ≤ c.shape.columns → i < count
    → IsFront c l (count * s.columns) bytes → AreRowOffsets c 0 0 offsets → length offsets ≡ c.shape.columns → size ≡ samples_of_row s * l.bytes
    → columns ≡ s.columns → IsRow s k l (image (one_row s) k (line_of i columns offsets)) (line_of i size bytes) (line_of i columns offsets)
joined_row s k l c i count size columns bytes offsets layout order one kind single some inside lt front row long size_is columns_is =
    let all : samples_of_row s ≡ s.columns = rw single (omega arith) in
    let bytes_of : size ≡ s.columns * l.bytes = size_is ∙ ap (λ (m : ℕ). m * l.bytes) all in
    let known : AreSamples k l bytes (count * s.columns) = rw kind at front.samples in
    let (raw, fits, samples, copied, whole) = piece_is_row s k l c i count bytes offsets layout order one.0 one.1 kind single some inside lt front.raw
    front.fits known row long in
    rw (line_is i size bytes, line_is i columns offsets, bytes_of, columns_is) (record {
      shape = refl;
      kind = refl;
      raw = raw;
      fits = rw all fits;
      known = rw all samples;
      copied = copied;
      long = whole ∙ sym all;
    })

-- so many rows are as long as one may be
pub joined_fits : (s : Sizes) (l : Layout) (most : ℕ) → AreSizes s → IsLayout l → l.order ≡ Bsq → (most ≡ 1) ⊎ (most * row_bytes s l ≤ 2 ^ 16)
    → most * s.columns ≤ 65536
joined_fits s l most sizes layout order (inl one) = rw one (omega (arith, sizes.columns.1))
joined_fits s l most sizes layout order (inr few) =
    let wide : row_bytes s l ≡ s.columns * l.bytes = rw order (grind arith) in
    let all : most * (s.columns * l.bytes) ≡ most * s.columns * l.bytes = grind arith in
    let bytes : most * s.columns * 1 ≤ most * s.columns * l.bytes = mul-le (most * s.columns) 1 (most * s.columns) l.bytes (omega arith) (some layout) in
    omega (arith, rw wide at few, all, bytes)
  where
    some : IsLayout l → 1 ≤ l.bytes
    some (inl e) = omega (arith, e)
    some (inr e) = omega (arith, e)

-- and are no more than its samples
pub joined_few : (s : Sizes) (most : ℕ) → AreSizes s → most * s.columns ≤ 65536 → most ≤ 65536
joined_few s most sizes wide = omega (arith, wide, mul-le most 1 most s.columns (omega arith) sizes.columns.0)

-- an index in them is small
pub joined_small : (s : Sizes) (l : Layout) (y i count columns : ℕ) → AreSizes s → l.order ≡ Bsq → y + count ≤ rows_in s l → i < count
    → columns ≡ s.columns → (i + 1) * columns ≤ 65536 * 65536 * 65536
joined_small s l y i count columns sizes order inside lt columns_is =
    let rows : rows_in s l ≤ 65536 * 65536 = rw order (mul-le s.bands s.rows 65536 65536 sizes.bands.1 sizes.rows.1) in
    rw columns_is (mul-le (i + 1) s.columns (65536 * 65536) 65536 (omega (arith, lt, inside, rows)) sizes.columns.1)

pub joined_line : (s : CompressSettings) (row c : Image) (most i count columns : ℕ) (bytes offsets : List ℕ) → IsLayout s.layout → s.layout.order ≡ Bsq
    → AreSizes s.params.shape → IsJoined s most row → count ≤ most → columns ≡ s.params.shape.columns
    → (c.shape ≡ row.shape) × (c.kind ≡ row.kind) × IsFront c s.layout (count * columns) bytes → AreRowOffsets c 0 0 offsets
    → length offsets ≡ c.shape.columns → i < count
    → IsRow (rows_of_raw s.layout.order s.params.shape) s.params.kind s.layout
    (image (one_row (rows_of_raw s.layout.order s.params.shape)) s.params.kind (line_of i columns offsets))
    (line_of i (row_bytes s.params.shape s.layout) bytes) (line_of i columns offsets)
joined_line s row c most i count columns bytes offsets layout order sizes (row_shape, row_kind) few columns_is (shape, kind, front) row_is long lt =
    let same : (rows_of_raw s.layout.order s.params.shape).columns ≡ s.params.shape.columns = same_columns s.layout.order s.params.shape in
    let wide : columns ≡ (rows_of_raw s.layout.order s.params.shape).columns = columns_is ∙ sym same in
    let all : c.shape ≡ record { columns = most * s.params.shape.columns; rows = 1; bands = 1 } = shape ∙ row_shape in
    let room : count * (rows_of_raw s.layout.order s.params.shape).columns ≤ most * s.params.shape.columns =
    rw same (mul-le count s.params.shape.columns most s.params.shape.columns few (omega arith)) in
    joined_row (rows_of_raw s.layout.order s.params.shape) s.params.kind s.layout c i count (row_bytes s.params.shape s.layout) columns bytes offsets layout
    order (ap (λ (t : Sizes). t.bands) all, ap (λ (t : Sizes). t.rows) all) (kind ∙ row_kind) (rw order refl) (rw same sizes.columns.0)
    (rw (ap (λ (t : Sizes). t.columns) all) room) lt (subst (λ (n : ℕ). IsFront c s.layout (count * n) bytes) wide front) row_is long refl wide

-- ---- why rows aren't handed on

-- a sample is bad, and which; or memory failed
pub first_bad : (k : SampleKind) (l : Layout) (bytes : List ℕ) (fault : Fault) (j : ℕ) → (fault ≡ WantOfMemory) ⊎ IsBadSample k l bytes fault
    → fault ≡ SampleRange j → IsFirstBad k l bytes j
first_bad k l bytes fault j (inl memory) is = absurd (no_memory j (sym memory ∙ is))
  where
    no_memory : (j : ℕ) → WantOfMemory ≡ SampleRange j → ⊥
    no_memory j h = cc
first_bad k l bytes fault j (inr (i, e, first)) is = subst (λ (n : ℕ). IsFirstBad k l bytes n) (same_index i j (sym e ∙ is)) first
  where
    same_index : (a b : ℕ) → SampleRange a ≡ SampleRange b → a ≡ b
    same_index a b h = cc

pub memory_failed : (k : SampleKind) (l : Layout) (bytes : List ℕ) (fault : Fault) → (fault ≡ WantOfMemory) ⊎ IsBadSample k l bytes fault
    → ((j : ℕ) → fault ≡ SampleRange j → ⊥) → fault ≡ WantOfMemory
memory_failed k l bytes fault (inl memory) none = memory
memory_failed k l bytes fault (inr (i, e, first)) none = absurd (none i e)
