-- Rows that come are the next ones of their scene: how many bytes they have, and how many come in one call.
use Rattle.std.proofs.Common.{◌≡◌, ◌⊎◌, ◌+◌, ◌-◌, ◌*◌, ◌/◌, ◌%◌, ◌^◌, ◌<◌, ◌≤◌, ℕ, List, ◌++◌, length, take, drop}
use Rattle.std.proofs.Common.{refl, sym, ap, ◌∙◌, subst, arith, inl, inr, append_assoc}
use Rattle.std.proofs.Math.Nat.{div-add-mod, div-mul-le_self, mul-mod_left}
use Rattle.std.proofs.Math.Seq.{take-add}
use Rattle.std.proofs.lemmas.List.{take_all, take-append-drop}
use Rattle.std.proofs.lemmas.Bool.{cases_lt}
use Rattle.std.proofs.lemmas.Nat.{mul-le}
use Rattle.cube_core.specs.declared.fault.Fault.{Fault}
use Rattle.cube_core.specs.declared.fault.Fault.TheVariants.{RawLength, SampleRange}
use Rattle.cube_core.specs.declared.layout.Layout.{Layout}
use Rattle.cube_core.specs.declared.layout.RawOrder.{RawOrder}
use Rattle.cube_core.specs.declared.layout.RawOrder.TheVariants as raw
use Rattle.cube_core.specs.Layout.{IsLayout, IsFirstBad}
use Rattle.cube_core.specs.Raw.{IsBadSample}
use Rattle.cube_core.specs.Shape.{sample_count}
use Rattle.cube_core.proofs.PartBytes.{bad_follows, bad_stays}
use Rattle.header_bits.specs.declared.params.Params.{Params}
use Rattle.header_bits.specs.Lawful.{IsLawful}
use Rattle.raw_rows.specs.OneRow.{rows_of_raw, samples_of_row}
use Rattle.raw_rows.proofs.RowSizes.{count_by_row}
use Rattle.ccsds123.specs.declared.scene.SceneEncoder.{SceneEncoder}
use Rattle.ccsds123.specs.Coding.{raw_length}
use Rattle.ccsds123.specs.Rows.{AreMoreRows, IsEndRefusal, IsRowRefusal, IsWrongCount, with_more}
use Rattle.ccsds123.specs.Scenes.{IsOpen, Scene, all_rows, row_bytes, samples_in_row, scene_of}

-- ---- how many bytes have come

-- the bytes of some rows
pub rows_long : (p : Params) (l : Layout) (y : ℕ) → y * samples_in_row p l * l.bytes ≡ y * row_bytes p l
rows_long p l y = grind arith

pub raw_long : (s : SceneEncoder) → IsOpen s → length (scene_of s).raw ≡ s.rows * row_bytes s.params s.layout
raw_long s h = h.found.long ∙ rows_long s.params s.layout s.rows

-- all rows have all samples
pub all_samples : (p : Params) (l : Layout) → all_rows p l * samples_in_row p l ≡ sample_count p.shape
all_samples p l = sym (count_by_row l.order p.shape)

-- those of all rows
pub all_long : (p : Params) (l : Layout) → all_rows p l * row_bytes p l ≡ raw_length p l
all_long p l =
    let turned : all_rows p l * row_bytes p l ≡ all_rows p l * samples_in_row p l * l.bytes = grind arith in
    turned ∙ ap (λ (n : ℕ). n * l.bytes) (all_samples p l)

some_bytes : (l : Layout) → IsLayout l → 1 ≤ l.bytes
some_bytes l (inl e) = omega (arith, e)
some_bytes l (inr e) = omega (arith, e)

most_bytes : (l : Layout) → IsLayout l → l.bytes ≤ 2
most_bytes l (inl e) = omega (arith, e)
most_bytes l (inr e) = omega (arith, e)

-- all samples and bytes can be counted
few_samples : (p : Params) → IsLawful p → sample_count p.shape ≤ 65536 * 65536 * 65536
few_samples p lawful =
    let planes : p.shape.bands * p.shape.rows ≤ 65536 * 65536 =
    mul-le p.shape.bands p.shape.rows 65536 65536 lawful.sizes.bands.1 lawful.sizes.rows.1 in
    mul-le (p.shape.bands * p.shape.rows) p.shape.columns (65536 * 65536) 65536 planes lawful.sizes.columns.1

few_bytes : (s : SceneEncoder) → IsOpen s → raw_length s.params s.layout ≤ 65536 * 65536 * 65536 * 2
few_bytes s h = mul-le (sample_count s.params.shape) s.layout.bytes (65536 * 65536 * 65536) 2 (few_samples s.params h.lawful) (most_bytes s.layout h.layout)

pub few_come : (s : SceneEncoder) (row : ℕ) → IsOpen s → row ≡ row_bytes s.params s.layout → s.rows * row ≤ 65536 * 65536 * 65536 * 2
few_come s row h is =
    let low : s.rows * row_bytes s.params s.layout ≤ all_rows s.params s.layout * row_bytes s.params s.layout =
    mul-le s.rows (row_bytes s.params s.layout) (all_rows s.params s.layout) (row_bytes s.params s.layout) h.few (omega arith) in
    rw is (omega (arith, low, all_long s.params s.layout, few_bytes s h))

-- and so can the samples up to one in the next row
pub index_small : (s : SceneEncoder) (bytes : List ℕ) (i row : ℕ) → IsOpen s → s.rows < all_rows s.params s.layout → row ≡ samples_in_row s.params s.layout
    → length bytes ≡ row_bytes s.params s.layout → (i + 1) * s.layout.bytes ≤ length bytes → s.rows * row + i < 2 ^ 64
index_small s bytes i row h more is long there =
    let before : s.rows * samples_in_row s.params s.layout ≤ all_rows s.params s.layout * samples_in_row s.params s.layout =
    mul-le s.rows (samples_in_row s.params s.layout) (all_rows s.params s.layout) (samples_in_row s.params s.layout) h.few (omega arith) in
    let one : 1 * row_bytes s.params s.layout ≤ all_rows s.params s.layout * row_bytes s.params s.layout =
    mul-le 1 (row_bytes s.params s.layout) (all_rows s.params s.layout) (row_bytes s.params s.layout) (omega (arith, more)) (omega arith) in
    let index : (i + 1) * 1 ≤ (i + 1) * s.layout.bytes = mul-le (i + 1) 1 (i + 1) s.layout.bytes (omega arith) (some_bytes s.layout h.layout) in
    rw is (omega (arith, before, all_samples s.params s.layout, few_samples s.params h.lawful, one, all_long s.params s.layout, few_bytes s h, index, long, there))

pub are_more : (s : SceneEncoder) (bytes : List ℕ) (row wanted had : ℕ) → IsOpen s → row ≡ row_bytes s.params s.layout
    → wanted ≡ raw_length s.params s.layout → had ≡ s.rows * row + length bytes → length bytes % row ≡ 0 → had ≤ wanted → AreMoreRows (scene_of s) bytes
are_more s bytes row wanted had h is wanted_is had_is whole room =
    let parts : row * (length bytes / row) + length bytes % row ≡ length bytes = div-add-mod (length bytes) row in
    let turned : length bytes / row * row ≡ row * (length bytes / row) = grind arith in
    record {
      count = length bytes / row;
      whole = omega (arith, parts, whole, turned) ∙ ap (λ (n : ℕ). length bytes / row * n) is;
      room =
          let come : s.rows * row ≡ length (scene_of s).raw = rw is (sym (raw_long s h)) in
          omega (arith, room, wanted_is, had_is, come);
    }

pub no_more : (s : SceneEncoder) (bytes : List ℕ) (row wanted had : ℕ) → IsOpen s → row ≡ row_bytes s.params s.layout → wanted ≡ raw_length s.params s.layout
    → had ≡ s.rows * row + length bytes → ((length bytes % row ≡ 0 → ⊥) ⊎ (wanted < had)) → IsWrongCount (scene_of s) bytes (RawLength wanted had)
no_more s bytes row wanted had h is wanted_is had_is wrong =
    (rw (wanted_is, had_is, is, raw_long s h) refl, λ more. refused more wrong)
  where
    refused : AreMoreRows (scene_of s) bytes → ((length bytes % row ≡ 0 → ⊥) ⊎ (wanted < had)) → ⊥
    refused more (inl parts) = parts (rw (more.whole, ← is) (mul-mod_left more.count row))
    refused more (inr many) =
        let come : s.rows * row ≡ length (scene_of s).raw = rw is (sym (raw_long s h)) in
        omega (arith, more.room, many, wanted_is, had_is, come)

-- ---- a bad sample

pub bad_in_scene : (s : SceneEncoder) (bytes : List ℕ) (i index : ℕ) → IsOpen s → index ≡ s.rows * samples_in_row s.params s.layout + i
    → IsFirstBad s.params.kind s.layout bytes i → IsRowRefusal (scene_of s) bytes (SampleRange index)
bad_in_scene s bytes i index h is bad = inr (
  s.rows * samples_in_row s.params s.layout + i,
  ap SampleRange is,
  bad_follows s.params.kind s.layout (scene_of s).raw bytes (s.rows * samples_in_row s.params s.layout) i h.found.long h.found.cube.5 bad,
)

-- ---- rows of one call

least_row : (bands columns bytes : ℕ) → 1 ≤ bands → 1 ≤ columns → 1 ≤ bytes → 1 ≤ bands * columns * bytes
least_row bands columns bytes one two three =
    omega (arith, mul-le 1 1 bands columns one two, mul-le 1 1 (bands * columns) bytes (omega (arith, mul-le 1 1 bands columns one two)) three)

pub some_row : (s : SceneEncoder) → IsOpen s → 1 ≤ row_bytes s.params s.layout
some_row s h = by_order s.layout.order
  where
    bytes : 1 ≤ s.layout.bytes
    bytes = some_bytes s.layout h.layout

    by_order : (o : RawOrder) → 1 ≤ samples_of_row (rows_of_raw o s.params.shape) * s.layout.bytes
    by_order raw.Bsq = least_row 1 s.params.shape.columns s.layout.bytes (omega arith) h.lawful.sizes.columns.0 bytes
    by_order raw.Bil = least_row s.params.shape.bands s.params.shape.columns s.layout.bytes h.lawful.sizes.bands.0 h.lawful.sizes.columns.0 bytes
    by_order raw.Bip = least_row s.params.shape.bands s.params.shape.columns s.layout.bytes h.lawful.sizes.bands.0 h.lawful.sizes.columns.0 bytes

pub row_inside : (n i size : ℕ) → i < n / size → (i + 1) * size ≤ n
row_inside n i size lt = omega (arith, mul-le (i + 1) size (n / size) size (omega (arith, lt)) (omega arith), div-mul-le_self n size)

pub still_more : (s : SceneEncoder) (bytes : List ℕ) (i size : ℕ) → IsOpen s → AreMoreRows (scene_of s) bytes → size ≡ row_bytes s.params s.layout
    → i < length bytes / size → s.rows + i < all_rows s.params s.layout
still_more s bytes i size h more is lt = elim (cases_lt (s.rows + i) (all_rows s.params s.layout)) [
  | inl early ↦ early
  | inr late ↦
      (let some : 1 ≤ size = rw is (some_row s h) in
      let all : all_rows s.params s.layout * size ≤ (s.rows + i) * size = mul-le (all_rows s.params s.layout) size (s.rows + i) size late (omega arith) in
      let apart : (s.rows + i) * size ≡ s.rows * size + i * size = grind arith in
      let next : (i + 1) * size ≡ i * size + size = grind arith in
      let come : length (scene_of s).raw ≡ s.rows * size = rw is (raw_long s h) in
      let wanted : all_rows s.params s.layout * size ≡ raw_length s.params s.layout = rw is (all_long s.params s.layout) in
      absurd (omega (arith, some, all, apart, next, come, wanted, more.room, row_inside (length bytes) i size lt)))
]

one_piece : (i size : ℕ) → (i + 1) * size - i * size ≡ size
one_piece i size =
    let next : (i + 1) * size ≡ i * size + size = grind arith in
    omega (arith, next)

one_more : (i size : ℕ) (bytes : List ℕ) → take (i * size) bytes ++ take ((i + 1) * size - i * size) (drop (i * size) bytes) ≡ take ((i + 1) * size) bytes
one_more i size bytes =
    let next : (i + 1) * size ≡ i * size + size = grind arith in
    rw (one_piece i size, next) (sym (take-add (i * size) size bytes))

-- rows that came, and one more
pub scene_taken : (s now next : Scene) (i size : ℕ) (bytes : List ℕ) → now ≡ with_more s (take (i * size) bytes)
    → next ≡ with_more now (take ((i + 1) * size - i * size) (drop (i * size) bytes)) → next ≡ with_more s (take ((i + 1) * size) bytes)
scene_taken s now next i size bytes before after =
    let piece : List ℕ = take ((i + 1) * size - i * size) (drop (i * size) bytes) in
    after ∙ ap (λ (x : Scene). with_more x piece) before
    ∙ ap (λ (raw : List ℕ). record s { raw = raw }) (append_assoc s.raw (take (i * size) bytes) piece ∙ ap (λ (xs : List ℕ). s.raw ++ xs) (one_more i size bytes))

-- all rows came
pub all_taken : (s : SceneEncoder) (now : Scene) (bytes : List ℕ) (i size : ℕ) → IsOpen s → AreMoreRows (scene_of s) bytes → size ≡ row_bytes s.params s.layout
    → length bytes / size ≤ i → now ≡ with_more (scene_of s) (take (i * size) bytes) → now ≡ with_more (scene_of s) bytes
all_taken s now bytes i size h more is last before =
    let parts : size * (length bytes / size) + length bytes % size ≡ length bytes = div-add-mod (length bytes) size in
    let whole : length bytes ≡ more.count * size = more.whole ∙ ap (λ (n : ℕ). more.count * n) (sym is) in
    let rest : length bytes % size ≡ 0 = rw whole (mul-mod_left more.count size) in
    let many : length bytes / size * size ≤ i * size = mul-le (length bytes / size) size i size last (omega arith) in
    let turned : length bytes / size * size ≡ size * (length bytes / size) = grind arith in
    before ∙ ap (with_more (scene_of s)) (take_all (i * size) bytes (omega (arith, parts, rest, many, turned)))

-- a row is refused among others
pub refused_among : (s now : Scene) (bytes : List ℕ) (i size : ℕ) (fault : Fault) → now ≡ with_more s (take (i * size) bytes)
    → IsRowRefusal now (take ((i + 1) * size - i * size) (drop (i * size) bytes)) fault → IsRowRefusal s bytes fault
refused_among s now bytes i size fault before (inl memory) = inl memory
refused_among s now bytes i size fault before (inr bad) =
    let piece : List ℕ = take ((i + 1) * size - i * size) (drop (i * size) bytes) in
    let rest : List ℕ = drop ((i + 1) * size) bytes in
    let all : ((s.raw ++ take (i * size) bytes) ++ piece) ++ rest ≡ s.raw ++ bytes =
    ap (λ (xs : List ℕ). xs ++ rest) (append_assoc s.raw (take (i * size) bytes) piece ∙ ap (λ (xs : List ℕ). s.raw ++ xs) (one_more i size bytes))
    ∙ append_assoc s.raw (take ((i + 1) * size) bytes) rest ∙ ap (λ (xs : List ℕ). s.raw ++ xs) (take-append-drop ((i + 1) * size) bytes) in
    let there : IsBadSample s.params.kind s.layout ((s.raw ++ take (i * size) bytes) ++ piece) fault =
    subst (λ (x : Scene). IsBadSample x.params.kind x.layout (x.raw ++ piece) fault) before bad in
    inr (subst (λ (xs : List ℕ). IsBadSample s.params.kind s.layout xs fault) all
    (bad_stays s.params.kind s.layout ((s.raw ++ take (i * size) bytes) ++ piece) rest fault there))

-- ---- the end

pub is_short : (s : SceneEncoder) (wanted had row : ℕ) → IsOpen s → (s.rows ≡ all_rows s.params s.layout → ⊥) → wanted ≡ raw_length s.params s.layout
    → row ≡ row_bytes s.params s.layout → had ≡ s.rows * row → IsEndRefusal (scene_of s) (RawLength wanted had)
is_short s wanted had row h short wanted_is row_is had_is =
    let come : had ≡ length (scene_of s).raw = had_is ∙ rw row_is (sym (raw_long s h)) in
    inl (rw (wanted_is, come) refl, λ all. short (last all))
  where
    last : length (scene_of s).raw ≡ raw_length s.params s.layout → s.rows ≡ all_rows s.params s.layout
    last all = elim (cases_lt s.rows (all_rows s.params s.layout)) [
      | inl early ↦
          (let size : ℕ = row_bytes s.params s.layout in
          let next : (s.rows + 1) * row_bytes s.params s.layout ≤ all_rows s.params s.layout * row_bytes s.params s.layout =
          mul-le (s.rows + 1) (row_bytes s.params s.layout) (all_rows s.params s.layout) (row_bytes s.params s.layout) (omega (arith, early)) (omega arith) in
          let after : (s.rows + 1) * row_bytes s.params s.layout ≡ s.rows * row_bytes s.params s.layout + row_bytes s.params s.layout = grind arith in
          absurd (omega (arith, next, after, some_row s h, all, raw_long s h, all_long s.params s.layout)))
      | inr late ↦ omega (arith, late, h.few)
    ]
