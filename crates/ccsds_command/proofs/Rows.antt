-- More rows were read and coded, and the file of all rows.
use Rattle.std.proofs.Common.{◌≡◌, ◌⊎◌, inl, inr, ◌+◌, ◌-◌, ◌*◌, ◌<◌, ◌≤◌, ℕ, List, [], ◌++◌, length, Option, Ok, refl, sym, ap, ◌∙◌, subst, arith}
use Rattle.std.proofs.lemmas.List.{nil_from_length}
use Rattle.std.proofs.lemmas.Nat.{mul-le}
use Rattle.cube_core.specs.declared.fault.Fault.{Fault}
use Rattle.cube_core.specs.declared.fault.Fault.TheVariants.{WantOfMemory}
use Rattle.cube_core.specs.declared.layout.Layout.{Layout}
use Rattle.cube_core.specs.Image.{Image}
use Rattle.cube_core.specs.Kind.{SampleKind}
use Rattle.cube_core.specs.Layout.{IsLayout}
use Rattle.cube_core.specs.Raw.{AreSamples, IsFound}
use Rattle.cube_core.specs.Shape.{Sizes, sample_count}
use Rattle.header_bits.specs.declared.params.Params.{Params}
use Rattle.file_encoding.specs.ByRows.{IsFileOfRows, IsUnderWay, RowEncoderState, image_so_far, rows_of_order}
use Rattle.file_encoding.proofs.ByRows.{all_handed, cube_so_far, has_rows, kind_in, shape_in}
use Rattle.file_encoding.proofs.FoundRows.{IsRow, found_next, same_rows, some_samples}
use Rattle.command_devices.specs.Devices.{Gave, GaveWithin}
use Rattle.command_devices.proofs.Devices.{gave_more}
use Rattle.command_words.specs.declared.settings.CompressSettings.{CompressSettings}
use Rattle.raw_rows.specs.OneRow.{rows_of_raw, samples_of_row}
use Rattle.raw_rows.specs.Together.{GoTogether}
use Rattle.raw_streams.specs.Rows.{GaveRows, IsRowRefusal, row_bytes, rows_in, samples_in_row}
use Rattle.raw_streams.specs.Streams.{IsRawRefusal, most_read}
use Rattle.raw_streams.proofs.RowStreams.{all_rows, row_refused}
use Rattle.raw_streams.proofs.Streams.{all_came, found_cube, found_none, within_more}
use Rattle.ccsds_command.specs.ByRows.{AreOfRows, HandedOn, HasCome}
use Rattle.ccsds_command.specs.Compress.{HasFile}

-- ---- before the first row

pub none_found : (p : Params) (l : Layout) (e : RowEncoderState) → IsUnderWay p e → e.y ≡ 0 → e.offsets ≡ []
    → IsFound p.shape p.kind l [] (e.y * samples_in_row p.shape l) (Ok (image_so_far p e.offsets))
none_found p l e under first none =
    found_none p.shape p.kind l (image_so_far p e.offsets) (e.y * samples_in_row p.shape l) (rw first (omega arith))
    (cube_so_far p e.offsets under.lawful under.range) (shape_in p.order p.shape p.kind e.offsets) (kind_in p.order p.shape p.kind e.offsets)

-- ---- one row more

-- the encoder still wants a row where one is to come
pub still_wanted : (s : CompressSettings) (y n : ℕ) → GoTogether s.layout.order s.params.order → n ≡ rows_in s.params.shape s.layout → y < n
    → y < (rows_of_order s.params.order s.params.shape).rows
still_wanted s y n together is lt =
    let same : rows_in s.params.shape s.layout ≡ (rows_of_order s.params.order s.params.shape).rows = ap (λ (t : Sizes). t.rows) (same_rows s.layout.order s.params.order s.params.shape together) in
    omega (arith, is, lt, same)

-- what is known of the rows that came
pub samples_come : (p : Params) (l : Layout) (e : RowEncoderState) (bytes : List ℕ) (n : ℕ)
    → IsFound p.shape p.kind l bytes n (Ok (image_so_far p e.offsets)) → (length bytes ≡ n * l.bytes) × AreSamples p.kind l bytes n
samples_come p l e bytes n found = let (cube, shape, kind, raw, have, samples) = found.cube in (found.long, samples)

-- one row more was handed over
pub row_handed : (s : CompressSettings) (e new : RowEncoderState) (r : Image) (bytes samples before : List ℕ) → IsLayout s.layout
    → GoTogether s.layout.order s.params.order → IsUnderWay s.params e → e.y < rows_in s.params.shape s.layout
    → IsRow (rows_of_raw s.layout.order s.params.shape) s.params.kind s.layout r bytes samples → new.y ≡ e.y + 1 → new.offsets ≡ e.offsets ++ samples
    → AreOfRows s e before → AreOfRows s new (before ++ bytes)
row_handed s e new r bytes samples before layout together under more row y_is offsets_are found =
    let next : (e.y + 1) * samples_in_row s.params.shape s.layout ≡ e.y * samples_in_row s.params.shape s.layout + samples_in_row s.params.shape s.layout = grind arith in
    let size : length e.offsets ≡ e.y * samples_in_row s.params.shape s.layout =
    under.size ∙ ap (λ (t : Sizes). e.y * samples_of_row t) (sym (same_rows s.layout.order s.params.order s.params.shape together)) in
    rw (y_is, offsets_are, next) (found_next s.params s.layout e.offsets e.y before under.lawful layout together size under.range found more r bytes samples row)

-- ---- rows that came

module _ (s : CompressSettings) (e : RowEncoderState) (a b c : Option (List ℕ)) (come : HasCome s e a b) where
  bytes_come : length come.0 ≡ e.y * row_bytes s.params.shape s.layout
  bytes_come = (samples_come s.params s.layout e come.0 (e.y * samples_in_row s.params.shape s.layout) come.2).0 ∙ grind arith

  pub come_refused : (k : SampleKind) (y f0 f1 f2 : ℕ) (fault : Fault) → k ≡ s.params.kind → e.y ≡ y → y ≤ rows_in s.params.shape s.layout → f1 ≡ f0
      → IsRowRefusal s.params.shape k s.layout y b c f1 f2 fault → IsRawRefusal s.params.shape s.params.kind s.layout a f0 f2 fault
  come_refused k y f0 f1 f2 fault kind at inside same refused =
      row_refused s.params.shape s.params.kind s.layout e.y a b c come.0 f0 f1 f2 fault (rw at inside) come.1 bytes_come
      (samples_come s.params s.layout e come.0 (e.y * samples_in_row s.params.shape s.layout) come.2).1 same (rw (kind, ← at) at refused)

  pub next_refused : (y f0 f1 f2 : ℕ) (fault : Fault) → e.y ≡ y → y ≤ rows_in s.params.shape s.layout → f1 ≡ f0
      → (fault ≡ WantOfMemory) ⊎ IsRowRefusal s.params.shape s.params.kind s.layout y b c f1 f2 fault
      → IsRawRefusal s.params.shape s.params.kind s.layout a f0 f2 fault
  next_refused y f0 f1 f2 fault at inside same (inl memory) = inr (inl memory)
  next_refused y f0 f1 f2 fault at inside same (inr refused) = come_refused s.params.kind y f0 f1 f2 fault refl at inside same refused

  low : e.y ≤ rows_in s.params.shape s.layout → e.y * row_bytes s.params.shape s.layout ≤ most_read s.params.shape s.layout
  low inside = omega (arith, mul-le e.y (row_bytes s.params.shape s.layout) (rows_in s.params.shape s.layout) (row_bytes s.params.shape s.layout) inside (omega arith), all_rows s.params.shape s.layout)

  pub come_within : (y : ℕ) → e.y ≡ y → y ≤ rows_in s.params.shape s.layout
      → GaveWithin (λ _. most_read s.params.shape s.layout - y * row_bytes s.params.shape s.layout) b c
      → GaveWithin (λ _. most_read s.params.shape s.layout) a c
  come_within y at inside within = within_more a b c come.0 (most_read s.params.shape s.layout - y * row_bytes s.params.shape s.layout)
      (most_read s.params.shape s.layout) come.1 within (rw (← at) (omega (arith, bytes_come, low (rw at inside))))

  -- some rows more
  pub come_more : (new : RowEncoderState) (count : ℕ) (bytes : List ℕ) → Gave b c bytes → HandedOn s e new count bytes → HasCome s new a c
  come_more new count bytes gave handed = (come.0 ++ bytes, gave_more a b c come.0 bytes come.1 gave, handed.rows come.0 come.2)

-- ---- after the last row

pub file_of_all : (s : CompressSettings) (e : RowEncoderState) (a b c : Option (List ℕ)) (file : List ℕ) → IsLayout s.layout
    → GoTogether s.layout.order s.params.order → IsUnderWay s.params e → e.y ≡ (rows_of_order s.params.order s.params.shape).rows → HasCome s e a b
    → GaveRows s.params.shape s.layout (rows_in s.params.shape s.layout) b c
    → ((p : Params) → IsUnderWay p e → e.y ≡ (rows_of_order p.order p.shape).rows → IsFileOfRows p e.offsets file) → HasFile s a file
file_of_all s e a b c file layout together under last come rest whole =
    let p : Params = s.params in
    let n : ℕ = e.y * samples_in_row s.params.shape s.layout in
    let none : rows_in s.params.shape s.layout - rows_in s.params.shape s.layout ≡ 0 = omega arith in
    let empty : length rest.0 ≡ 0 = rest.2 ∙ ap (λ (m : ℕ). m * row_bytes s.params.shape s.layout) none ∙ omega arith in
    let gave : Gave b c [] = subst (Gave b c) (nil_from_length rest.0 empty) rest.1 in
    let same : rows_of_raw s.layout.order s.params.shape ≡ rows_of_order s.params.order s.params.shape = same_rows s.layout.order s.params.order s.params.shape together in
    let all : n ≡ sample_count s.params.shape =
    ap (λ (m : ℕ). m * samples_in_row s.params.shape s.layout) last
    ∙ ap (λ (t : Sizes). (rows_of_order s.params.order s.params.shape).rows * samples_of_row t) same ∙ all_handed s.params.order s.params.shape in
    let cube = found_cube p.shape p.kind s.layout a c come.0 n (Ok (image_so_far p e.offsets)) layout (some_samples p.shape under.lawful.sizes) all
    (all_came a b c come.0 come.1 gave) rest.3 come.2 in (
      image_so_far p e.offsets,
      (record { cube = cube.cube; shape = cube.shape; kind = cube.kind }, cube.fits, cube.all),
      whole p under last (image_so_far p e.offsets) cube.cube cube.shape cube.kind (has_rows p e.offsets),
    )
