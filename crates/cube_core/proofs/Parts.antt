-- The pieces of a part, and what one more of them adds.
use Rattle.std.proofs.Common.{◌≡◌, ◌⊎◌, ◌+◌, ◌*◌, ◌/◌, ◌-◌, ◌<◌, ◌≤◌, ◌^◌, ℕ, min, List, length, get_or, refl, sym, ap, ◌∙◌, arith, inl, inr}
use Rattle.std.proofs.lemmas.Bool.{cases_lt}
use Rattle.std.proofs.lemmas.Nat.{div-mul-add, mul-add-lt, mul-le}
use Rattle.cube_core.proofs.Words.{Order, Bsq, Bi, Place, Layout, Sizes, sample_count, SampleKind, index_in, IsOrder, IsPlaceOf, place_index}
use Rattle.cube_core.proofs.Words.{order_of, StandsFor, AreSamples, IsPieceOf, IsReadAt, AreReadTo}
use Rattle.cube_core.proofs.Words.{AreOffsets}
use Rattle.cube_core.proofs.Raws.{same_place, place_of, lawful_order}
use Rattle.cube_core.proofs.Walks.{sequential_index, index_in_group}

-- ---- where a place stands under interleaving by line, and by pixel

pub index_by_line : (s : Sizes) (p : Place) → p.z < s.bands → place_index s (Bi 1) p ≡ (p.y * s.bands + p.z) * s.columns + p.x
index_by_line s p lt =
    let first : p.z ≡ p.z / 1 * 1 = omega arith in
    let one : min 1 (s.bands - p.z) ≡ 1 = omega arith in
    index_in_group s 1 p.z p first ∙ rw one (omega arith)

pub index_by_pixel : (s : Sizes) (p : Place) → p.z < s.bands → place_index s (Bi s.bands) p ≡ (p.y * s.columns + p.x) * s.bands + p.z
index_by_pixel s p lt =
    let none : (0 * s.bands + p.z) / s.bands ≡ 0 = div-mul-add 0 s.bands p.z lt in
    let same : 0 * s.bands + p.z ≡ p.z = omega arith in
    let first : 0 ≡ p.z / s.bands * s.bands = rw (rw same at none) (omega arith) in
    let all : min s.bands (s.bands - 0) ≡ s.bands = omega arith in
    index_in_group s s.bands 0 p first ∙ rw all (omega arith)

-- ---- pieces

pub sequential_piece : (s : Sizes) (first count : ℕ) → first + count ≤ sample_count s → IsPieceOf s Bsq first count first count 0 1
sequential_piece s first count within =
    record {
      items = λ p place j lt e. sequential_index s p ∙ e ∙ omega arith;
      room = within;
      within = λ j lt. omega arith;
    }

row_below : (y z bands rows : ℕ) → y * bands + z < rows * bands → y < rows
row_below y z bands rows lt =
    elim (cases_lt y rows) [ inl h ↦ h | inr h ↦ (let all : rows * bands ≤ y * bands = mul-le rows bands y bands h (omega arith) in absurd (omega arith)) ]

pub line_row : (s : Sizes) (first count line z y : ℕ) → first + count ≤ s.rows * s.bands → line < count → y * s.bands + z ≡ first + line → y < s.rows
line_row s first count line z y within lt at = row_below y z s.bands s.rows (omega arith)

pub line_piece : (s : Sizes) (first count line z y at : ℕ) → first + count ≤ s.rows * s.bands → z < s.bands → line < count → y * s.bands + z ≡ first + line
    → at ≡ index_in s.columns s.rows z y 0 → at + s.columns ≤ sample_count s
    → IsPieceOf s (Bi 1) (first * s.columns) (count * s.columns) at s.columns (line * s.columns) 1
line_piece s first count line z y at within band lt line_is at_is room = record { items = items; room = room; within = inside }
  where
    items : (p : Place) → IsPlaceOf s p → (j : ℕ) → j < s.columns → index_in s.columns s.rows p.z p.y p.x ≡ at + j
        → place_index s (Bi 1) p ≡ first * s.columns + (line * s.columns + j * 1)
    items p place j low e =
        let q : Place = record { z = z; y = y; x = j } in
        let place_q : IsPlaceOf s (record { z = z; y = y; x = j }) = record { band = band; row = line_row s first count line z y within lt line_is; column = low } in
        let index_q : place_index s Bsq p ≡ place_index s Bsq (record { z = z; y = y; x = j }) =
        sequential_index s p ∙ omega (arith, e, at_is) ∙ sym (sequential_index s (record { z = z; y = y; x = j })) in
        let same : p ≡ record { z = z; y = y; x = j } = same_place s Bsq p (record { z = z; y = y; x = j }) tt place place_q index_q in
        let lines : (y * s.bands + z) * s.columns ≡ (first + line) * s.columns = ap (λ (n : ℕ). n * s.columns) line_is in
        ap (place_index s (Bi 1)) same ∙ index_by_line s (record { z = z; y = y; x = j }) band ∙ omega (arith, lines)

    inside : (j : ℕ) → j < s.columns → line * s.columns + j * 1 < count * s.columns
    inside j low = omega (arith, mul-add-lt line s.columns j count lt low)

pub pixel_piece : (s : Sizes) (first count z pixel n : ℕ) → first + count ≤ s.rows * s.columns → z < s.bands → pixel + n ≤ count
    → IsPieceOf s (Bi s.bands) (first * s.bands) (count * s.bands) (z * (s.rows * s.columns) + (first + pixel)) n (pixel * s.bands + z) s.bands
pixel_piece s first count z pixel n within band fits = record { items = items; room = room; within = inside }
  where
    items : (p : Place) → IsPlaceOf s p → (j : ℕ) → j < n → index_in s.columns s.rows p.z p.y p.x ≡ z * (s.rows * s.columns) + (first + pixel) + j
        → place_index s (Bi s.bands) p ≡ first * s.bands + (pixel * s.bands + z + j * s.bands)
    items p place j lt e =
        let flat : p.y * s.columns + p.x < s.rows * s.columns = omega (arith, mul-add-lt p.y s.columns p.x s.rows place.row place.column) in
        let mine : (p.z * (s.rows * s.columns) + (p.y * s.columns + p.x)) / (s.rows * s.columns) ≡ p.z =
        div-mul-add p.z (s.rows * s.columns) (p.y * s.columns + p.x) flat in
        let its : (z * (s.rows * s.columns) + (first + pixel + j)) / (s.rows * s.columns) ≡ z =
        div-mul-add z (s.rows * s.columns) (first + pixel + j) (omega arith) in
        let one : p.z * (s.rows * s.columns) + (p.y * s.columns + p.x) ≡ z * (s.rows * s.columns) + (first + pixel + j) = omega (arith, e) in
        let z_is : p.z ≡ z = sym mine ∙ ap (λ (i : ℕ). i / (s.rows * s.columns)) one ∙ its in
        let planes : p.z * (s.rows * s.columns) ≡ z * (s.rows * s.columns) = ap (λ (i : ℕ). i * (s.rows * s.columns)) z_is in
        let flat_is : p.y * s.columns + p.x ≡ first + pixel + j = omega (arith, one, planes) in
        index_by_pixel s p place.band ∙ rw (flat_is, z_is) (omega arith)

    room : z * (s.rows * s.columns) + (first + pixel) + n ≤ sample_count s
    room = let all : (z + 1) * (s.rows * s.columns) ≤ s.bands * (s.rows * s.columns) =
        mul-le (z + 1) (s.rows * s.columns) s.bands (s.rows * s.columns) (omega arith) (omega arith) in
        omega (arith, all)

    inside : (j : ℕ) → j < n → pixel * s.bands + z + j * s.bands < count * s.bands
    inside j lt = omega (arith, mul-add-lt (pixel + j) s.bands z count (omega arith) band)

-- a place is among those of a piece
abbrev pub IsAmong : Sizes → Place → ℕ → ℕ → Type 0
IsAmong s p at count = (j : ℕ) × (j < count) × (index_in s.columns s.rows p.z p.y p.x ≡ at + j)

-- a place whose index in the order is that of a piece's item is that item's
pub item_there : (s : Sizes) (o : Order) (from n at count first step j : ℕ) (p : Place) → IsOrder s o → IsPieceOf s o from n at count first step → IsPlaceOf s p
    → j < count → place_index s o p ≡ from + (first + j * step) → index_in s.columns s.rows p.z p.y p.x ≡ at + j
item_there s o from n at count first step j p lawful piece place lt e =
    let there = place_of s Bsq (at + j) tt (omega (arith, piece.room)) in
    let here : index_in s.columns s.rows there.0.z there.0.y there.0.x ≡ at + j = sym (sequential_index s there.0) ∙ there.1.index in
    let same : p ≡ there.0 = same_place s o p there.0 lawful place there.1.place (e ∙ sym (piece.items there.0 there.1.place j lt here)) in
    rw same here

-- one whose index is after those before a piece, and before those after it, is among its items where they follow one another in the order
pub among_next : (s : Sizes) (o : Order) (from n at count first : ℕ) (p : Place) → IsOrder s o → IsPieceOf s o from n at count first 1 → IsPlaceOf s p
    → from + first ≤ place_index s o p → place_index s o p < from + (first + count) → IsAmong s p at count
among_next s o from n at count first p lawful piece place low high =
    let within : place_index s o p - (from + first) < count = omega arith in
    let item : place_index s o p ≡ from + (first + (place_index s o p - (from + first)) * 1) = omega arith in
    (place_index s o p - (from + first), within, item_there s o from n at count first 1 (place_index s o p - (from + first)) p lawful piece place within item)

-- ---- a piece that is read

-- after one more piece, offsets are read at its places too
pub read_there : (s : Sizes) (k : SampleKind) (l : Layout) (from n : ℕ) (bytes old mid new : List ℕ) (at count first step : ℕ)
    → IsPieceOf s (order_of l.order s) from n at count first step
    → ((j : ℕ) → j < count → StandsFor k l bytes (first + j * step) (get_or new (at + j) 0)) → ((j : ℕ) → j < count → get_or new (at + j) 0 < 2 ^ k.bits)
    → ((i : ℕ) → (i < at) ⊎ (at + count ≤ i) → get_or new i 0 ≡ get_or mid i 0) → (p : Place) → IsPlaceOf s p
    → IsReadAt s k l from bytes old mid p ⊎ IsAmong s p at count → IsReadAt s k l from bytes old new p
read_there s k l from n bytes old mid new at count first step piece taken good others p place known =
    elim (cases_lt i at) [
      | inl low ↦ kept (inl low) known
      | inr above ↦ elim (cases_lt i (at + count)) [ inl high ↦ fresh above high | inr past ↦ kept (inr past) known ]
    ]
  where
    i : ℕ
    i = index_in s.columns s.rows p.z p.y p.x

    kept : (i < at) ⊎ (at + count ≤ i) → IsReadAt s k l from bytes old mid p ⊎ IsAmong s p at count → IsReadAt s k l from bytes old new p
    kept out (inl was) =
        let same = others i out in
        record { before = λ lt. same ∙ was.before lt; below = λ le. rw same (was.below le); value = λ le. rw same (was.value le) }
    kept (inl low) (inr (j, lt, e)) = absurd (omega (arith, low, e))
    kept (inr past) (inr (j, lt, e)) = absurd (omega (arith, past, e))

    fresh : at ≤ i → i < at + count → IsReadAt s k l from bytes old new p
    fresh low high =
        let lt : i - at < count = omega arith in
        let there : i ≡ at + (i - at) = omega arith in
        let stands = taken (i - at) lt in
        let below = good (i - at) lt in
        let item : place_index s (order_of l.order s) p ≡ from + (first + (i - at) * step) = piece.items p place (i - at) lt there in
        let within : place_index s (order_of l.order s) p - from ≡ first + (i - at) * step = omega (arith, item) in
        let back : at + (i - at) ≡ i = sym there in
        record {
          before = λ early. absurd (omega (arith, early, item));
          below = λ le. rw back at below;
          value = λ le. rw within (rw back at (stands.value below));
        }

read_next : (s : Sizes) (k : SampleKind) (l : Layout) (from n : ℕ) (bytes old mid new : List ℕ) (at count first : ℕ) → IsOrder s (order_of l.order s)
    → IsPieceOf s (order_of l.order s) from n at count first 1
    → ((j : ℕ) → j < count → StandsFor k l bytes (first + j * 1) (get_or new (at + j) 0)) → ((j : ℕ) → j < count → get_or new (at + j) 0 < 2 ^ k.bits)
    → ((i : ℕ) → (i < at) ⊎ (at + count ≤ i) → get_or new i 0 ≡ get_or mid i 0) → AreReadTo s k l from first bytes old mid
    → AreReadTo s k l from (first + count) bytes old new
read_next s k l from n bytes old mid new at count first lawful piece taken good others earlier p place lt =
    read_there s k l from n bytes old mid new at count first 1 piece taken good others p place (elim (cases_lt (place_index s (order_of l.order s) p) (from + first)) [
      | inl low ↦ inl (earlier p place low)
      | inr here ↦ inr (among_next s (order_of l.order s) from n at count first p lawful piece place here (omega arith))
    ])

-- a piece whose items follow one another in the order
pub read_on : (s : Sizes) (k kind : SampleKind) (l : Layout) (from n : ℕ) (bytes old mid new : List ℕ) (at count first step done : ℕ) → kind ≡ k → step ≡ 1
    → first ≡ done → 0 < sample_count s → IsPieceOf s (order_of l.order s) from n at count first step
    → ((j : ℕ) → j < count → StandsFor kind l bytes (first + j * step) (get_or new (at + j) 0))
    → ((j : ℕ) → j < count → get_or new (at + j) 0 < 2 ^ kind.bits) → ((i : ℕ) → (i < at) ⊎ (at + count ≤ i) → get_or new i 0 ≡ get_or mid i 0)
    → AreReadTo s k l from done bytes old mid → AreReadTo s k l from (done + count) bytes old new
read_on s k kind l from n bytes old mid new at count first step done kind_is step_is first_is some piece taken good others earlier =
    read_next s k l from n bytes old mid new at count done (lawful_order l.order s some) (rw (first_is, step_is) at piece)
    (rw (kind_is, first_is, step_is) at taken) (rw kind_is at good) others earlier

-- nothing is read yet
pub read_none : (s : Sizes) (k : SampleKind) (l : Layout) (from : ℕ) (bytes old : List ℕ) → AreReadTo s k l from 0 bytes old old
read_none s k l from bytes old p place lt = record { before = λ _. refl; below = λ le. absurd (omega (arith, lt, le)); value = λ le. absurd (omega (arith, lt, le)) }

-- all offsets stay within the kind's bits
pub offsets_on : (s : Sizes) (k kind : SampleKind) (mid new : List ℕ) (at count : ℕ) → kind ≡ k → AreOffsets s k mid → length new ≡ length mid
    → ((j : ℕ) → j < count → get_or new (at + j) 0 < 2 ^ kind.bits) → ((i : ℕ) → (i < at) ⊎ (at + count ≤ i) → get_or new i 0 ≡ get_or mid i 0)
    → AreOffsets s k new
offsets_on s k kind mid new at count kind_is known long good others = record { whole = long ∙ known.whole; range = range }
  where
    range : (i : ℕ) → i < length new → get_or new i 0 < 2 ^ k.bits
    range i lt = elim (cases_lt i at) [
      | inl low ↦ rw (others i (inl low)) (known.range i (rw long at lt))
      | inr above ↦ elim (cases_lt i (at + count)) [
        | inl high ↦
            (let there : at + (i - at) ≡ i = omega arith in
            let within : i - at < count = omega arith in
            rw (kind_is, there) at (good (i - at) within))
        | inr past ↦ rw (others i (inr past)) (known.range i (rw long at lt))
      ]
    ]

-- where all samples are of the kind, so are the offsets of a piece
pub piece_good : (s : Sizes) (o : Order) (k : SampleKind) (l : Layout) (bytes new : List ℕ) (from n at count first step : ℕ)
    → IsPieceOf s o from n at count first step → ((j : ℕ) → j < count → StandsFor k l bytes (first + j * step) (get_or new (at + j) 0)) → AreSamples k l bytes n
    → (j : ℕ) → j < count → get_or new (at + j) 0 < 2 ^ k.bits
piece_good s o k l bytes new from n at count first step piece taken all j lt = (taken j lt).range (all (first + j * step) (piece.within j lt))

-- the numbers of a piece are there
pub piece_there : (s : Sizes) (o : Order) (l : Layout) (from n at count first step length_is : ℕ) → IsPieceOf s o from n at count first step
    → length_is ≡ n * l.bytes → (j : ℕ) → j < count → (first + j * step + 1) * l.bytes ≤ length_is
piece_there s o l from n at count first step length_is piece whole j lt =
    rw whole (mul-le (first + j * step + 1) l.bytes n l.bytes (omega (arith, piece.within j lt)) (omega arith))

-- ---- blocks of pixels

-- a fact of each place before a block of `count` pixels, and of those of the first z bands in it
abbrev pub EachOfBlock : Sizes → (Place → Type 0) → ℕ → ℕ → ℕ → Type 0
EachOfBlock s P pixel count z = (p : Place) → IsPlaceOf s p
    → (place_index s (Bi s.bands) p < pixel * s.bands) ⊎ ((place_index s (Bi s.bands) p < (pixel + count) * s.bands) × (p.z < z)) → P p

pub block_begins : (s : Sizes) (P : Place → Type 0) (pixel count : ℕ) → ((p : Place) → IsPlaceOf s p → place_index s (Bi s.bands) p < pixel * s.bands → P p)
    → EachOfBlock s P pixel count 0
block_begins s P pixel count h p place (inl low) = h p place low
block_begins s P pixel count h p place (inr (_, none)) = absurd (omega (arith, none))

pub block_ends : (s : Sizes) (P : Place → Type 0) (pixel count : ℕ) → EachOfBlock s P pixel count s.bands → (p : Place) → IsPlaceOf s p
    → place_index s (Bi s.bands) p < (pixel + count) * s.bands → P p
block_ends s P pixel count h p place lt = h p place (inr (lt, place.band))

-- one more band of a block
pub band_more : (s : Sizes) (P Q : Place → Type 0) (pixel count z : ℕ)
    → ((p : Place) → IsPlaceOf s p → P p ⊎ IsAmong s p (z * (s.rows * s.columns) + pixel) count → Q p) → EachOfBlock s P pixel count z
    → EachOfBlock s Q pixel count (z + 1)
band_more s P Q pixel count z step h p place (inl low) = step p place (inl (h p place (inl low)))
band_more s P Q pixel count z step h p place (inr (high, low)) =
    elim (cases_lt p.z z) [
      | inl below ↦ step p place (inl (h p place (inr (high, below))))
      | inr here ↦ elim (cases_lt (place_index s (Bi s.bands) p) (pixel * s.bands)) [
        | inl early ↦ step p place (inl (h p place (inl early)))
        | inr late ↦ step p place (inr (among (omega (arith, here, low)) late))
      ]
    ]
  where
    among : p.z ≡ z → pixel * s.bands ≤ place_index s (Bi s.bands) p → IsAmong s p (z * (s.rows * s.columns) + pixel) count
    among e late =
        let index : place_index s (Bi s.bands) p ≡ (p.y * s.columns + p.x) * s.bands + p.z = index_by_pixel s p place.band in
        let flat : ℕ = p.y * s.columns + p.x in
        let low_is : pixel ≤ p.y * s.columns + p.x = elim (cases_lt (p.y * s.columns + p.x) pixel) [
          | inl less ↦ (let all : (p.y * s.columns + p.x + 1) * s.bands ≤ pixel * s.bands =
              mul-le (p.y * s.columns + p.x + 1) s.bands pixel s.bands (omega arith) (omega arith) in absurd (omega (arith, all, index, late, place.band)))
          | inr le ↦ le
        ] in
        let high_is : p.y * s.columns + p.x < pixel + count = elim (cases_lt (p.y * s.columns + p.x) (pixel + count)) [
          | inl less ↦ less
          | inr le ↦ (let all : (pixel + count) * s.bands ≤ (p.y * s.columns + p.x) * s.bands =
              mul-le (pixel + count) s.bands (p.y * s.columns + p.x) s.bands le (omega arith) in absurd (omega (arith, all, index, high)))
        ] in
        let planes : p.z * (s.rows * s.columns) ≡ z * (s.rows * s.columns) = ap (λ (i : ℕ). i * (s.rows * s.columns)) e in
        (p.y * s.columns + p.x - pixel, omega (arith, low_is, high_is), omega (arith, planes, low_is))
