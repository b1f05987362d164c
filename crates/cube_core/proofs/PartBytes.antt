-- What reading and writing a part makes of raw bytes.
use Rattle.std.proofs.Common.{◌≡◌, ◌+◌, ◌*◌, ◌-◌, ◌<◌, ◌≤◌, ℕ, suc, zero, List, [], ◌∷◌, ◌++◌, length, take, drop, get_or, refl, sym, ap, ◌∙◌, subst, arith, inl, inr}
use Rattle.std.proofs.Common.{length-take, length-drop, length-append, take-take, Result, Ok, Err, IfOk, IfErr}
use Rattle.std.proofs.lemmas.List.{take-append-drop, drop-drop, nil_from_length, drop_at, take_at, take_all, drop-take}
use Rattle.std.proofs.lemmas.Bool.{cases_lt}
use Rattle.std.proofs.lemmas.Nat.{mul-le}
use Rattle.cube_core.proofs.Words.{Place, Layout, Sizes, sample_count, SampleKind, Image, sample_at, places, place_index, IsLayout, order_of}
use Rattle.cube_core.proofs.Words.{raw_value, bytes_at, sample_bytes, raw_bytes, flat_map, sample_by, HaveBytes, CanBeWritten}
use Rattle.cube_core.proofs.Words.{AreReadTo, AreWrittenTo, AreSamples, IsBadSample, IsFound, IsCube, IsKind, RawOrder, unit_of, unit_count}
use Rattle.cube_core.specs.declared.layout.RawOrder.TheVariants as raw
use Rattle.cube_core.specs.declared.fault.Fault.{Fault}
use Rattle.cube_core.specs.declared.fault.Fault.TheVariants.{SampleRange}
use Rattle.cube_core.specs.Layout.{IsFirstBad}
use Rattle.cube_core.proofs.Fitting.{has_bytes}
use Rattle.cube_core.proofs.Offsets.{offset_is_sample}
use Rattle.cube_core.proofs.Orders.{StandsAt, place_at_index, length-places, place_index_below}
use Rattle.cube_core.proofs.RawBytes.{AreBytes, image, bytes_at_small, sample_bytes_again, length-raw_bytes, length-sample_bytes}
use Rattle.cube_core.proofs.Raws.{place_of, lawful_order, bytes_there}
use Rattle.cube_core.proofs.Written.{sample_there, sample_of_place}

-- ---- pieces of one length

piece_of : {A : Type 0} (f : A → List ℕ) (xs : List A) (w i : ℕ) (d : A) → ((x : A) → length (f x) ≡ w) → i < length xs
    → take w (drop (i * w) (flat_map f xs)) ≡ f (get_or xs i d)
piece_of f [] w i d same lt = absurd (omega arith)
piece_of f (x ∷ xs) w zero d same lt = let none : 0 * w ≡ 0 = omega arith in rw none (take_at (f x) (flat_map f xs) w (same x))
piece_of f (x ∷ xs) w (suc i) d same lt =
    let further : suc i * w ≡ w + i * w = omega arith in
    rw (further, ← drop-drop (i * w) w (f x ++ flat_map f xs), drop_at (f x) (flat_map f xs) w (same x)) (piece_of f xs w i d same (omega arith))

pub same_pieces : (n w : ℕ) (xs ys : List ℕ) → length xs ≡ n * w → length ys ≡ n * w → ((i : ℕ) → i < n → take w (drop (i * w) xs) ≡ take w (drop (i * w) ys))
    → xs ≡ ys
same_pieces zero w xs ys long also each = nil_from_length xs (long ∙ omega arith) ∙ sym (nil_from_length ys (also ∙ omega arith))
same_pieces (suc n) w xs ys long also each =
    let none : 0 * w ≡ 0 = omega arith in
    let first : take w xs ≡ take w ys = rw none at (each 0 (omega arith)) in
    let rest : drop w xs ≡ drop w ys = same_pieces n w (drop w xs) (drop w ys) (omega (arith, length-drop w xs, long)) (omega (arith, length-drop w ys, also))
    (λ i lt. rw (drop-drop (i * w) w xs, drop-drop (i * w) w ys) (rw (further i) at (each (suc i) (omega arith)))) in
    sym (take-append-drop w xs) ∙ rw (first, rest) (take-append-drop w ys)
  where
    further : (i : ℕ) → suc i * w ≡ w + i * w
    further i = omega arith

-- a piece of the front of a list
pub front_piece : (i w m : ℕ) (xs : List ℕ) → i * w + w ≤ m → take w (drop (i * w) (take m xs)) ≡ take w (drop (i * w) xs)
front_piece i w m xs h =
    let split : i * w + (m - i * w) ≡ m = omega arith in
    rw (← split, drop-take (i * w) (m - i * w) xs) (take-take w (m - i * w) (drop (i * w) xs) (omega arith))

-- a piece of one list before another, and of the other
pub piece_before : (i w m : ℕ) (xs ys : List ℕ) → length xs ≡ m → i * w + w ≤ m → take w (drop (i * w) (xs ++ ys)) ≡ take w (drop (i * w) xs)
piece_before i w m xs ys long h = sym (front_piece i w m (xs ++ ys) h) ∙ ap (λ (zs : List ℕ). take w (drop (i * w) zs)) (take_at xs ys m long)

pub piece_after : (from i w : ℕ) (xs ys : List ℕ) → length xs ≡ from * w → take w (drop ((from + i) * w) (xs ++ ys)) ≡ take w (drop (i * w) ys)
piece_after from i w xs ys long =
    let sum : (from + i) * w ≡ from * w + i * w = omega arith in
    rw (sum, ← drop-drop (i * w) (from * w) (xs ++ ys), drop_at xs ys (from * w) long) refl

-- ---- the bytes of a place

pub bytes_of_place : (c : Image) (l : Layout) (p : Place) (i : ℕ) → IsLayout l → 0 < sample_count c.shape → StandsAt c.shape (order_of l.order c.shape) p i
    → bytes_at l (raw_bytes c l) i ≡ sample_bytes l (sample_at c p.z p.y p.x)
unfolding raw_bytes
bytes_of_place c l p i layout some stands =
    let lawful = lawful_order l.order c.shape some in
    let item : get_or (places c.shape (order_of l.order c.shape)) i p ≡ p =
    subst (λ (n : ℕ). get_or (places c.shape (order_of l.order c.shape)) n p ≡ p) stands.index
    (place_at_index c.shape (order_of l.order c.shape) p p lawful stands.place) in
    let lt : i < sample_count c.shape =
    subst (λ (n : ℕ). n < sample_count c.shape) stands.index (place_index_below c.shape (order_of l.order c.shape) p lawful stands.place) in
    piece_of (λ (q : Place). sample_bytes l (sample_at c q.z q.y q.x)) (places c.shape (order_of l.order c.shape)) l.bytes i p
    (λ q. length-sample_bytes l (sample_at c q.z q.y q.x) layout) (rw (length-places c.shape (order_of l.order c.shape) lawful) lt)
    ∙ ap (λ (q : Place). sample_bytes l (sample_at c q.z q.y q.x)) item

-- ---- reading

-- after a part is read, the raw bytes up to its end are those before it and those that were read
pub part_read : (s : Sizes) (k : SampleKind) (l : Layout) (from n : ℕ) (bytes old new : List ℕ) → IsLayout l → 0 < sample_count s
    → from + n ≤ sample_count s → length bytes ≡ n * l.bytes → AreBytes bytes → length old ≡ sample_count s → length new ≡ sample_count s
    → AreReadTo s k l from n bytes old new
    → take ((from + n) * l.bytes) (raw_bytes (image s k new) l) ≡ take (from * l.bytes) (raw_bytes (image s k old) l) ++ bytes
part_read s k l from n bytes old new layout some within long small full_old full read =
    same_pieces (from + n) l.bytes (take ((from + n) * l.bytes) now) (take (from * l.bytes) was ++ bytes)
    (omega (arith, length-take ((from + n) * l.bytes) now, length-raw_bytes (image s k new) l layout some, mul-le (from + n) l.bytes (sample_count s) l.bytes within (omega arith)))
    (omega (arith, length-append (take (from * l.bytes) was) bytes, front_long, long)) each
  where
    was : List ℕ
    was = raw_bytes (image s k old) l

    now : List ℕ
    now = raw_bytes (image s k new) l

    front_long : length (take (from * l.bytes) was) ≡ from * l.bytes
    front_long = omega (arith, length-take (from * l.bytes) was, length-raw_bytes (image s k old) l layout some, mul-le from l.bytes (sample_count s) l.bytes (omega arith) (omega arith))

    each : (i : ℕ) → i < from + n → take l.bytes (drop (i * l.bytes) (take ((from + n) * l.bytes) now)) ≡ take l.bytes (drop (i * l.bytes) (take (from * l.bytes) was ++ bytes))
    each i lt =
        let there = place_of s (order_of l.order s) i (lawful_order l.order s some) (omega arith) in
        let p : Place = there.0 in
        let at : place_index s (order_of l.order s) there.0 ≡ i = there.1.index in
        let known = read there.0 there.1.place (rw at lt) in
        let mine : take l.bytes (drop (i * l.bytes) (take ((from + n) * l.bytes) now)) ≡ sample_bytes l (sample_by s k new there.0) =
        front_piece i l.bytes ((from + n) * l.bytes) now (bytes_there l i (from + n) layout lt) ∙ bytes_of_place (image s k new) l there.0 i layout some there.1
        ∙ ap (sample_bytes l) (sample_of_place s k new there.0 full there.1.place) in
        mine ∙ elim (cases_lt i from) [
          | inl early ↦
              (let same = known.before (rw at early) in
              rw same (sym (piece_before i l.bytes (from * l.bytes) (take (from * l.bytes) was) bytes front_long (bytes_there l i from layout early)
              ∙ front_piece i l.bytes (from * l.bytes) was (bytes_there l i from layout early) ∙ bytes_of_place (image s k old) l there.0 i layout some there.1
              ∙ ap (sample_bytes l) (sample_of_place s k old there.0 full_old there.1.place))))
          | inr late ↦
              (let back : from + (i - from) ≡ i = omega arith in
              let value : sample_by s k new there.0 ≡ raw_value l k (bytes_at l bytes (i - from)) = rw at at (known.value (rw at late)) in
              let fits : (i - from) * l.bytes + l.bytes ≤ length bytes = rw long (bytes_there l (i - from) n layout (omega arith)) in
              let whole : length (bytes_at l bytes (i - from)) ≡ l.bytes =
              omega (arith, length-take l.bytes (drop ((i - from) * l.bytes) bytes), length-drop ((i - from) * l.bytes) bytes) in
              rw value (sample_bytes_again l k (bytes_at l bytes (i - from)) layout (bytes_at_small l bytes (i - from) small) whole)
              ∙ sym (rw back at (piece_after from (i - from) l.bytes (take (from * l.bytes) was) bytes front_long)))
        ]

-- and so many samples fit in their bytes
pub part_fits : (s : Sizes) (k : SampleKind) (l : Layout) (from n : ℕ) (bytes old new : List ℕ) → IsLayout l → 0 < sample_count s
    → from + n ≤ sample_count s → AreBytes bytes → length old ≡ sample_count s → length new ≡ sample_count s → AreReadTo s k l from n bytes old new
    → HaveBytes (image s k old) l from → HaveBytes (image s k new) l (from + n)
part_fits s k l from n bytes old new layout some within small full_old full read have i lt =
    let lawful = lawful_order l.order s some in
    let inside : i < sample_count s = omega arith in
    let there = place_of s (order_of l.order s) i lawful inside in
    let at : place_index s (order_of l.order s) there.0 ≡ i = there.1.index in
    let known = read there.0 there.1.place (rw at lt) in
    rw (sample_there (image s k new) l there.0 i lawful inside there.1, sample_of_place s k new there.0 full there.1.place) (elim (cases_lt i from) [
      | inl early ↦
          (let same = known.before (rw at early) in
          rw same (rw (sample_there (image s k old) l there.0 i lawful inside there.1, sample_of_place s k old there.0 full_old there.1.place) at (have i early)))
      | inr late ↦
          (let value : sample_by s k new there.0 ≡ raw_value l k (bytes_at l bytes (i - from)) = rw at at (known.value (rw at late)) in
          rw value (has_bytes l k (bytes_at l bytes (i - from)) layout (bytes_at_small l bytes (i - from) small)))
    ])

-- each of them is of the kind
pub part_samples_are : (s : Sizes) (k : SampleKind) (l : Layout) (from n : ℕ) (bytes old new : List ℕ) → IsKind k → 0 < sample_count s
    → from + n ≤ sample_count s → AreReadTo s k l from n bytes old new → AreSamples k l bytes n
part_samples_are s k l from n bytes old new kind some within read i lt =
    let there = place_of s (order_of l.order s) (from + i) (lawful_order l.order s some) (omega arith) in
    let at : place_index s (order_of l.order s) there.0 ≡ from + i = there.1.index in
    let back : from + i - from ≡ i = omega arith in
    let known = read there.0 there.1.place (rw at (omega arith)) in
    let value = rw (at, back) at (known.value (rw at (omega arith))) in
    rw (← value) (offset_is_sample k _ kind (known.below (rw at (omega arith))))

-- ---- writing

-- what is written of a part are its raw bytes
pub part_written : (c : Image) (s : Sizes) (k : SampleKind) (l : Layout) (from n : ℕ) (offsets bytes : List ℕ) → image s k offsets ≡ c → IsLayout l
    → 0 < sample_count s → from + n ≤ sample_count s → length bytes ≡ n * l.bytes → length offsets ≡ sample_count s
    → AreWrittenTo s k l from n offsets bytes → bytes ≡ take (n * l.bytes) (drop (from * l.bytes) (raw_bytes c l))
part_written c s k l from n offsets bytes c_is layout some within long full written = rw (← c_is) (same_pieces n l.bytes bytes
    (take (n * l.bytes) (drop (from * l.bytes) all)) long rest_long each)
  where
    all : List ℕ
    all = raw_bytes (image s k offsets) l

    rest_long : length (take (n * l.bytes) (drop (from * l.bytes) all)) ≡ n * l.bytes
    rest_long = omega (
      arith,
      length-take (n * l.bytes) (drop (from * l.bytes) all),
      length-drop (from * l.bytes) all,
      length-raw_bytes (image s k offsets) l layout some,
      mul-le (from + n) l.bytes (sample_count s) l.bytes within (omega arith),
    )

    each : (i : ℕ) → i < n → take l.bytes (drop (i * l.bytes) bytes) ≡ take l.bytes (drop (i * l.bytes) (take (n * l.bytes) (drop (from * l.bytes) all)))
    each i lt =
        let there = place_of s (order_of l.order s) (from + i) (lawful_order l.order s some) (omega arith) in
        let at : place_index s (order_of l.order s) there.0 ≡ from + i = there.1.index in
        let back : from + i - from ≡ i = omega arith in
        let known = written there.0 there.1.place (rw at (omega arith)) in
        let mine : bytes_at l bytes i ≡ sample_bytes l (sample_by s k offsets there.0) = rw (at, back) at (known.there (rw at (omega arith))) in
        let sum : (from + i) * l.bytes ≡ from * l.bytes + i * l.bytes = omega arith in
        mine ∙ sym (front_piece i l.bytes (n * l.bytes) (drop (from * l.bytes) all) (bytes_there l i n layout lt)
        ∙ rw (drop-drop (i * l.bytes) (from * l.bytes) all, ← sum) (bytes_of_place (image s k offsets) l there.0 (from + i) layout some there.1)
        ∙ ap (sample_bytes l) (sample_of_place s k offsets there.0 full there.1.place))

-- samples whose bytes are written can be
pub can_be_written_to : (s : Sizes) (k : SampleKind) (l : Layout) (n : ℕ) (offsets bytes : List ℕ) → 0 < sample_count s → n ≡ sample_count s
    → AreWrittenTo s k l 0 n offsets bytes → CanBeWritten s k l offsets
can_be_written_to s k l n offsets bytes some all written p place =
    (written p place (omega (arith, place_index_below s (order_of l.order s) p (lawful_order l.order s some) place))).fits (omega arith)

-- ---- parts of a cube

pub part_within : (o : RawOrder) (s : Sizes) (first count : ℕ) → first + count ≤ unit_count o s → first * unit_of o s + count * unit_of o s ≤ sample_count s
part_within raw.Bsq s first count h = omega arith
part_within raw.Bil s first count h = let p : (first + count) * s.columns ≤ s.rows * s.bands * s.columns =
    mul-le (first + count) s.columns (s.rows * s.bands) s.columns h (omega arith) in omega (arith, p)
part_within raw.Bip s first count h = let p : (first + count) * s.bands ≤ s.rows * s.columns * s.bands =
    mul-le (first + count) s.bands (s.rows * s.columns) s.bands h (omega arith) in omega (arith, p)

-- where all samples were read, the bytes are a cube's
pub whole_read : (c d : Image) (l : Layout) (from n : ℕ) (bytes : List ℕ) → IsLayout l → 0 < sample_count c.shape → from ≡ 0 → n ≡ sample_count c.shape
    → take ((from + n) * l.bytes) (raw_bytes c l) ≡ take (from * l.bytes) (raw_bytes d l) ++ bytes → raw_bytes c l ≡ bytes
whole_read c d l from n bytes layout some none all read =
    let end : (from + n) * l.bytes ≡ sample_count c.shape * l.bytes = rw (none, all) (omega arith) in
    let start : from * l.bytes ≡ 0 = rw none (omega arith) in
    sym (take_all (sample_count c.shape * l.bytes) (raw_bytes c l) (omega (arith, length-raw_bytes c l layout some)))
    ∙ rw (end, start) at read

-- where all samples were written, they are a cube's raw bytes
pub whole_written : (xs raw : List ℕ) (l : Layout) (from n N : ℕ) → from ≡ 0 → n ≡ N → length raw ≡ N * l.bytes
    → xs ≡ take (n * l.bytes) (drop (from * l.bytes) raw) → xs ≡ raw
whole_written xs raw l from n N none all long h =
    let start : from * l.bytes ≡ 0 = rw none (omega arith) in
    (rw (start, all) at h) ∙ take_all (N * l.bytes) raw (omega (arith, long))

-- what two facts of a result tell together
pub ok_by_both : {T E : Type 0} (r : Result T E) (P Q R : T → Type 0) → IfOk r P → IfOk r Q → ((t : T) → P t → Q t → R t) → IfOk r R
ok_by_both (Ok t) P Q R h k both = both t h k
ok_by_both (Err e) P Q R h k both = tt

-- the first bad sample stays the first, whatever comes after
pub bad_stays : (k : SampleKind) (l : Layout) (before more : List ℕ) (fault : Fault) → IsBadSample k l before fault → IsBadSample k l (before ++ more) fault
bad_stays k l before more fault (i, e, first) = (
  i,
  e,
  record {
    there = omega (arith, first.there, length-append before more);
    bad = λ h. first.bad (rw (same i first.there) at h);
    first = λ j lt. rw (same j (omega (arith, mul-le (j + 1) l.bytes (i + 1) l.bytes (omega arith) (omega arith), first.there))) (first.first j lt);
  },
)
  where
    same : (j : ℕ) → (j + 1) * l.bytes ≤ length before → bytes_at l (before ++ more) j ≡ bytes_at l before j
    same j h = piece_before j l.bytes (length before) before more refl (omega (arith, h))

-- samples that follow others
pub samples_follow : (k : SampleKind) (l : Layout) (before bytes : List ℕ) (from n : ℕ) → length before ≡ from * l.bytes → AreSamples k l before from
    → AreSamples k l bytes n → AreSamples k l (before ++ bytes) (from + n)
samples_follow k l before bytes from n long first more j lt =
    elim (cases_lt j from) [
      | inl early ↦
          rw (piece_before j l.bytes (length before) before bytes refl (omega (arith, long, mul-le (j + 1) l.bytes from l.bytes (omega arith) (omega arith)))) (first j early)
      | inr late ↦
          (let back : from + (j - from) ≡ j = omega arith in
          rw (rw back at (piece_after from (j - from) l.bytes before bytes long)) (more (j - from) (omega arith)))
    ]

-- the first bad sample of bytes that follow others
pub bad_follows : (k : SampleKind) (l : Layout) (before bytes : List ℕ) (from i : ℕ) → length before ≡ from * l.bytes → AreSamples k l before from
    → IsFirstBad k l bytes i → IsFirstBad k l (before ++ bytes) (from + i)
bad_follows k l before bytes from i long samples first =
    record {
      there = omega (arith, first.there, long, length-append before bytes);
      bad = λ h. first.bad (rw (piece_after from i l.bytes before bytes long) at h);
      first = samples_follow k l before bytes from i long samples first.first;
    }

-- what is found once one more part has come
pub found_more : (s : Sizes) (k : SampleKind) (l : Layout) (before bytes : List ℕ) (from n at many : ℕ) (c : Image) (result : Result Image Fault)
    → IsFound s k l before from (Ok c) → at ≡ from → many ≡ n → length bytes ≡ n * l.bytes → IfOk result IsCube
    → IfOk result (λ d. (d.shape ≡ c.shape) × (d.kind ≡ c.kind))
    → IfOk result (λ d. take ((at + many) * l.bytes) (raw_bytes d l) ≡ take (at * l.bytes) (raw_bytes c l) ++ bytes)
    → IfOk result (λ d. HaveBytes c l at → HaveBytes d l (at + many)) → IfOk result (λ d. AreSamples c.kind l bytes many)
    → IfErr result (λ e. (i : ℕ) × (e ≡ SampleRange (at + i)) × IsFirstBad c.kind l bytes i) → IsFound s k l (before ++ bytes) (from + n) result
found_more s k l before bytes from n at many c (Ok d) found at_is many_is long cube same read fits samples bad =
    let (whole, shape, kind, raw_is, have, known) = found.cube in
    let fit : HaveBytes c l from → HaveBytes d l (from + n) = rw (at_is, many_is) at fits in
    record {
      long = omega (arith, long, found.long, length-append before bytes);
      cube = (
        cube,
        same.0 ∙ shape,
        same.1 ∙ kind,
        (rw (at_is, many_is) at read) ∙ ap (λ (xs : List ℕ). xs ++ bytes) raw_is,
        fit have,
        samples_follow k l before bytes from n found.long known (rw (kind, many_is) at samples),
      );
      bad = tt;
    }
found_more s k l before bytes from n at many c (Err e) found at_is many_is long cube same read fits samples (i, e_is, first) =
    let (whole, shape, kind, raw_is, have, known) = found.cube in
    record {
      long = omega (arith, long, found.long, length-append before bytes);
      cube = tt;
      bad = (from + i, rw at_is at e_is, bad_follows k l before bytes from i found.long known (rw kind at first));
    }
