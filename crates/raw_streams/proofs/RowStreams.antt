-- Rows that came.
use Rattle.std.proofs.Common.{◌≡◌, ◌≢◌, ◌+◌, ◌*◌, ◌-◌, ◌^◌, ◌<◌, ◌≤◌, ℕ, List, [], ◌++◌, length, Option, Result, Ok, Err, IfErr, OnOk}
use Rattle.std.proofs.Common.{refl, sym, ap, ◌∙◌, arith, inl, inr, length-append}
use Rattle.std.proofs.lemmas.Nat.{mul-le}
use Rattle.std.proofs.lemmas.Result.{IfErr-weaker}
use Rattle.cube_core.specs.declared.fault.Fault.{Fault}
use Rattle.cube_core.specs.declared.fault.Fault.TheVariants.{RawLength, SampleRange}
use Rattle.cube_core.specs.declared.layout.Layout.{Layout}
use Rattle.cube_core.specs.declared.part.Part.{Part}
use Rattle.cube_core.specs.Kind.{SampleKind}
use Rattle.cube_core.specs.Layout.{IsFirstBad, IsLayout}
use Rattle.cube_core.specs.Parts.{first_sample, part_samples}
use Rattle.cube_core.specs.Raw.{AreSamples}
use Rattle.cube_core.specs.Shape.{AreSizes, Sizes, sample_count}
use Rattle.cube_core.proofs.PartBytes.{bad_follows, bad_stays}
use Rattle.command_devices.specs.Devices.{Gave, GaveWithin, IsFront}
use Rattle.command_devices.proofs.Devices.{gave_more}
use Rattle.raw_rows.proofs.RowSizes.{count_by_row}
use Rattle.raw_streams.specs.Rows.{GaveRows, IsCutOff, IsRestRefusal, IsRowRefusal, IsWrongRest, row_bytes, rows_in, samples_in_row}
use Rattle.raw_streams.specs.Streams.{IsEndRefusal, IsPartRefusal, IsRawRefusal, length_in, most_read}
use Rattle.raw_streams.proofs.Streams.{ended_front, full_front, gave_none, within_more}

pub on_ok_both : {U E : Type 0} (r : Result U E) (P Q R : Type 0) → OnOk r P → OnOk r Q → (P → Q → R) → OnOk r R
on_ok_both (Ok u) P Q R p q both = both p q
on_ok_both (Err e) P Q R p q both = tt

-- all bytes are those of all rows
pub all_rows : (s : Sizes) (l : Layout) → length_in s l ≡ rows_in s l * row_bytes s l
all_rows s l = ap (λ (n : ℕ). n * l.bytes) (count_by_row l.order s) ∙ grind arith

-- the bytes of the rows before the y-th, and of those from there on
rows_sum : (y done size : ℕ) → y ≤ done → y * size + (done - y) * size ≡ done * size
rows_sum y done size inside = let whole : y + (done - y) ≡ done = omega (arith, inside) in rw (← whole) (grind arith)

-- the bytes of some rows more
more_rows : (done count size : ℕ) → (done + count) * size ≡ done * size + count * size
more_rows done count size = grind arith

-- the bytes of rows are among those of all
rows_within : (s : Sizes) (l : Layout) (done count : ℕ) → done + count ≤ rows_in s l
    → done * row_bytes s l + count * row_bytes s l ≤ length_in s l
rows_within s l done count more =
    let low : (done + count) * row_bytes s l ≤ rows_in s l * row_bytes s l =
    mul-le (done + count) (row_bytes s l) (rows_in s l) (row_bytes s l) more (omega arith) in
    omega (arith, more_rows done count (row_bytes s l), low, all_rows s l)

-- how many bytes come with some rows more, and with a byte more
pub room_for_rows : (s : Sizes) (l : Layout) (y done count n : ℕ) → y ≤ done → done + count ≤ rows_in s l → n ≡ (done - y) * row_bytes s l
    → n + count * row_bytes s l ≤ most_read s l - y * row_bytes s l
room_for_rows s l y done count n inside more long =
    omega (arith, long, rows_sum y done (row_bytes s l) inside, rows_within s l done count more)

pub room_for_byte : (s : Sizes) (l : Layout) (y done n : ℕ) → y ≤ done → done ≡ rows_in s l → n ≡ (done - y) * row_bytes s l
    → n + 1 ≤ most_read s l - y * row_bytes s l
room_for_byte s l y done n inside all long =
    let whole : done * row_bytes s l ≡ length_in s l = rw all (sym (all_rows s l)) in
    omega (arith, long, rows_sum y done (row_bytes s l) inside, whole)

-- a part that is some rows isn't read as these aren't
pub rows_cut_off : (s : Sizes) (l : Layout) (y count : ℕ) (part : Part) (left now : Option (List ℕ)) (f0 f1 : ℕ) {U : Type 0} (r : Result U Fault)
    → first_sample l s part ≡ y * samples_in_row s l → part_samples l s part ≡ count * samples_in_row s l
    → IfErr r (IsPartRefusal s l part left now f0 f1) → IfErr r (IsCutOff s l y count left now f0 f1)
rows_cut_off s l y count part left now f0 f1 r first size refused = IfErr-weaker r _ (IsCutOff s l y count left now f0 f1) each refused
  where
    start : first_sample l s part * l.bytes ≡ y * row_bytes s l
    start = rw first (grind arith)

    whole : part_samples l s part * l.bytes ≡ count * row_bytes s l
    whole = rw size (grind arith)

    each : (e : Fault) → IsPartRefusal s l part left now f0 f1 e → IsCutOff s l y count left now f0 f1 e
    each e (inl read) = inl read
    each e (inr (bytes, gave, end, short, worked, e_is)) = inr (
      bytes,
      gave,
      end,
      rw whole at short,
      worked,
      e_is ∙ ap (λ (n : ℕ). RawLength (length_in s l) (n + length bytes)) start,
    )

-- the first `done` rows and a piece that comes after them
module _ (s : Sizes) (l : Layout) (y done : ℕ) (a b c : Option (List ℕ)) (bytes : List ℕ) (f0 f1 f2 : ℕ) (inside : y ≤ done) (gave : Gave a b bytes)
    (long : length bytes ≡ (done - y) * row_bytes s l) (same : f1 ≡ f0) where
  had : (more : List ℕ) → y * row_bytes s l + length (bytes ++ more) ≡ done * row_bytes s l + length more
  had more = omega (arith, length-append bytes more, long, rows_sum y done (row_bytes s l) inside)

  -- what cuts off some rows cuts off the rest
  pub rest_cut_off : (count : ℕ) (fault : Fault) → done + count ≤ rows_in s l → IsCutOff s l done count b c f1 f2 fault
      → IsRestRefusal s l y a c f0 f2 fault
  rest_cut_off count fault more (inl (e, rose)) = inl (e, rw same at rose)
  rest_cut_off count fault more (inr (bytes_now, came, end, short, worked, e)) = inr (
    bytes ++ bytes_now,
    gave_more a b c bytes bytes_now gave came,
    inl (end, omega (arith, had bytes_now, short, rows_within s l done count more)),
    worked ∙ same,
    e ∙ ap (λ (n : ℕ). RawLength (length_in s l) n) (sym (had bytes_now)),
  )

  pub rest_too_long : (fault : Fault) → done ≡ rows_in s l → IsEndRefusal s l b c f1 f2 fault → IsRestRefusal s l y a c f0 f2 fault
  rest_too_long fault all (inl (e, rose)) = inl (e, rw same at rose)
  rest_too_long fault all (inr (more, came, one, worked, e)) =
      let whole : done * row_bytes s l ≡ length_in s l = rw all (sym (all_rows s l)) in
      let many : y * row_bytes s l + length (bytes ++ more) ≡ most_read s l = omega (arith, had more, whole, one) in
      inr (
        bytes ++ more,
        gave_more a b c bytes more gave came,
        inr many,
        worked ∙ same,
        e ∙ ap (λ (n : ℕ). RawLength (length_in s l) n) (sym many),
      )

-- ---- some rows, and the rest

-- no row more has no bytes
pub rows_none : (y size : ℕ) → 0 ≡ (y - y) * size
rows_none y size = let none : y - y ≡ 0 = omega arith in rw none (omega arith)

-- what cuts off rows is why they aren't taken
pub rows_end : (s : Sizes) (k : SampleKind) (l : Layout) (y count : ℕ) (a b : Option (List ℕ)) (f0 f1 : ℕ) (fault : Fault) → y + count ≤ rows_in s l
    → IsCutOff s l y count a b f0 f1 fault → IsRowRefusal s k l y a b f0 f1 fault
rows_end s k l y count a b f0 f1 fault more cut =
    inl (rest_cut_off s l y y a a b [] f0 f0 f1 (omega arith) (gave_none a) (rows_none y (row_bytes s l)) refl count fault more cut)

-- `count` rows came, and then the rest
module _ (s : Sizes) (l : Layout) (y count : ℕ) (a b c : Option (List ℕ)) (bytes : List ℕ) (f0 f1 f2 : ℕ) (gave : Gave a b bytes)
    (long : length bytes ≡ count * row_bytes s l) (same : f1 ≡ f0) where
  both_long : (more : List ℕ) → y * row_bytes s l + length (bytes ++ more) ≡ (y + count) * row_bytes s l + length more
  both_long more = omega (arith, length-append bytes more, long, more_rows y count (row_bytes s l))

  pub rest_ends : (fault : Fault) → IsRestRefusal s l (y + count) b c f1 f2 fault → IsRestRefusal s l y a c f0 f2 fault
  rest_ends fault (inl (e, rose)) = inl (e, rw same at rose)
  rest_ends fault (inr (more, came, wrong, worked, e)) = inr (
    bytes ++ more,
    gave_more a b c bytes more gave came,
    rw (both_long more) wrong,
    worked ∙ same,
    e ∙ ap (λ (n : ℕ). RawLength (length_in s l) n) (sym (both_long more)),
  )

  -- a sample of these rows isn't of the kind, and the rest came
  pub sample_is_bad : (k : SampleKind) (i : ℕ) (fault : Fault) → y + count ≤ rows_in s l → fault ≡ SampleRange (y * samples_in_row s l + i)
      → IsFirstBad k l bytes i → GaveRows s l (y + count) b c → f2 ≡ f1 → IsRowRefusal s k l y a c f0 f2 fault
  sample_is_bad k i fault inside e first (more, came, rest, end) worked =
      let after : rows_in s l - y ≡ count + (rows_in s l - (y + count)) = omega (arith, inside) in
      let both : (count + (rows_in s l - (y + count))) * row_bytes s l ≡ count * row_bytes s l + (rows_in s l - (y + count)) * row_bytes s l =
      more_rows count (rows_in s l - (y + count)) (row_bytes s l) in
      let stays = bad_stays k l bytes more (SampleRange i) (i, refl, first) in
      let index : i ≡ stays.0 = same_index i stays.0 stays.1 in
      inr (
        bytes ++ more,
        gave_more a b c bytes more gave came,
        rw after (omega (arith, length-append bytes more, long, rest, both)),
        end,
        worked ∙ same,
        (stays.0, e ∙ ap (λ (n : ℕ). SampleRange (y * samples_in_row s l + n)) index, stays.2),
      )
    where
      same_index : (a b : ℕ) → SampleRange a ≡ SampleRange b → a ≡ b
      same_index a b h = cc

  pub room_with_rest : y + count ≤ rows_in s l → GaveWithin (λ _. most_read s l - (y + count) * row_bytes s l) b c
      → GaveWithin (λ _. most_read s l - y * row_bytes s l) a c
  room_with_rest inside within =
      within_more a b c bytes (most_read s l - (y + count) * row_bytes s l) (most_read s l - y * row_bytes s l) gave within
      (omega (arith, long, more_rows y count (row_bytes s l), rows_within s l y count inside))

-- the room that is left holds them
pub rows_fit : (s : Sizes) (l : Layout) (y count : ℕ) → y + count ≤ rows_in s l → count * row_bytes s l ≤ most_read s l - y * row_bytes s l
rows_fit s l y count inside = omega (arith, room_for_rows s l y y count 0 (omega arith) inside (rows_none y (row_bytes s l)))

-- an index in rows of a scene is small
pub index_small : (s : Sizes) (l : Layout) (y count i n : ℕ) → AreSizes s → IsLayout l → y + count ≤ rows_in s l → n ≡ count * row_bytes s l
    → (i + 1) * l.bytes ≤ n → y * samples_in_row s l + i < 2 ^ 64
index_small s l y count i n sizes layout inside long there =
    let planes : s.bands * s.rows ≤ 65536 * 65536 = mul-le s.bands s.rows 65536 65536 sizes.bands.1 sizes.rows.1 in
    let all : sample_count s ≤ 65536 * 65536 * 65536 = mul-le (s.bands * s.rows) s.columns (65536 * 65536) 65536 planes sizes.columns.1 in
    let low : y * samples_in_row s l ≤ rows_in s l * samples_in_row s l =
    mul-le y (samples_in_row s l) (rows_in s l) (samples_in_row s l) (omega (arith, inside)) (omega arith) in
    let few : sample_count s * l.bytes ≤ sample_count s * 2 = mul-le (sample_count s) l.bytes (sample_count s) 2 (omega arith) (most layout) in
    let index : i + 1 ≤ (i + 1) * l.bytes = least layout in
    omega (arith, all, low, count_by_row l.order s, few, rows_within s l y count inside, index, long, there)
  where
    most : IsLayout l → l.bytes ≤ 2
    most (inl e) = omega (arith, e)
    most (inr e) = omega (arith, e)

    least : IsLayout l → i + 1 ≤ (i + 1) * l.bytes
    least (inl e) = rw e (omega arith)
    least (inr e) = rw e (omega arith)

-- ---- rows of which a sample isn't of the kind

-- why rows aren't taken is why there is no cube
pub row_refused : (s : Sizes) (k : SampleKind) (l : Layout) (y : ℕ) (a b c : Option (List ℕ)) (bytes : List ℕ) (f0 f1 f2 : ℕ) (fault : Fault)
    → y ≤ rows_in s l → Gave a b bytes → length bytes ≡ y * row_bytes s l → AreSamples k l bytes (y * samples_in_row s l) → f1 ≡ f0
    → IsRowRefusal s k l y b c f1 f2 fault → IsRawRefusal s k l a f0 f2 fault
row_refused s k l y a b c bytes f0 f1 f2 fault inside gave long samples same (inl (inl (e, rose))) = inl (e, rw same at rose)
row_refused s k l y a b c bytes f0 f1 f2 fault inside gave long samples same (inl (inr (more, came, wrong, worked, e))) =
    let sum : length (bytes ++ more) ≡ y * row_bytes s l + length more = omega (arith, length-append bytes more, long) in
    inr (inr (
      bytes ++ more,
      front wrong sum,
      within wrong sum,
      inl (e ∙ ap (λ (n : ℕ). RawLength (length_in s l) n) (sym sum), other wrong sum),
    ))
  where
    front : IsWrongRest s l y c (length more) → length (bytes ++ more) ≡ y * row_bytes s l + length more → IsFront (most_read s l) a (bytes ++ more)
    front (inl (end, short)) sum = ended_front a c (bytes ++ more) (most_read s l) (gave_more a b c bytes more gave came) end (omega (arith, sum, short))
    front (inr over) sum = full_front a c (bytes ++ more) (most_read s l) (gave_more a b c bytes more gave came) (sum ∙ over)

    within : IsWrongRest s l y c (length more) → length (bytes ++ more) ≡ y * row_bytes s l + length more → length (bytes ++ more) ≤ most_read s l
    within (inl (end, short)) sum = omega (arith, sum, short)
    within (inr over) sum = omega (arith, sum, over)

    other : IsWrongRest s l y c (length more) → length (bytes ++ more) ≡ y * row_bytes s l + length more → length (bytes ++ more) ≢ length_in s l
    other (inl (end, short)) sum e = omega (arith, sum, short, e)
    other (inr over) sum e = omega (arith, sum, over, e)
row_refused s k l y a b c bytes f0 f1 f2 fault inside gave long samples same (inr (more, came, rest, end, worked, (i, e, first))) =
    let sum : y * row_bytes s l + (rows_in s l - y) * row_bytes s l ≡ length_in s l =
    rows_sum y (rows_in s l) (row_bytes s l) inside ∙ sym (all_rows s l) in
    let all : length (bytes ++ more) ≡ length_in s l = omega (arith, length-append bytes more, long, rest, sum) in
    let before : length bytes ≡ y * samples_in_row s l * l.bytes = long ∙ grind arith in
    inr (inr (
      bytes ++ more,
      ended_front a c (bytes ++ more) (most_read s l) (gave_more a b c bytes more gave came) end (omega (arith, all)),
      omega (arith, all),
      inr (all, (y * samples_in_row s l + i, e, bad_follows k l bytes more (y * samples_in_row s l) i before samples first)),
    ))
