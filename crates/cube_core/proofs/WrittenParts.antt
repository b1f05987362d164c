-- The pieces of a part that is written, and what one more of them adds.
use Rattle.std.proofs.Common.{◌≡◌, ◌≢◌, ◌⊎◌, ◌+◌, ◌*◌, ◌-◌, ◌<◌, ◌≤◌, ℕ, List, get_or, sym, ◌∙◌, arith, inl, inr}
use Rattle.std.proofs.lemmas.Bool.{cases_lt}
use Rattle.cube_core.proofs.Words.{Bsq, Place, Layout, Sizes, sample_count, SampleKind, sample_of, index_in, IsOrder, IsPlaceOf, place_index}
use Rattle.cube_core.proofs.Words.{order_of, bytes_at, SpellOffset, HasBytes, IsPieceOf, IsWrittenAt, AreWrittenTo}
use Rattle.cube_core.proofs.Words.{CanBeWritten}
use Rattle.cube_core.proofs.Raws.{place_of, lawful_order}
use Rattle.cube_core.proofs.Walks.{sequential_index}
use Rattle.cube_core.proofs.Parts.{IsAmong, item_there, among_next}

-- ---- a piece that is written

-- a place is one of a piece's, or none of them
among_or_not : (s : Sizes) (p : Place) (at count : ℕ) → IsAmong s p at count ⊎ (IsAmong s p at count → ⊥)
among_or_not s p at count = elim (cases_lt (index_in s.columns s.rows p.z p.y p.x) at) [
  | inl low ↦ inr (λ h. omega (arith, low, h.2))
  | inr above ↦ elim (cases_lt (index_in s.columns s.rows p.z p.y p.x) (at + count)) [
    | inl high ↦ inl (index_in s.columns s.rows p.z p.y p.x - at, omega arith, omega arith)
    | inr past ↦ inr (λ h. omega (arith, past, h.1, h.2))
  ]
]

-- after one more piece, the bytes of its places are there too
pub written_there : (s : Sizes) (k : SampleKind) (l : Layout) (from n : ℕ) (offsets old new : List ℕ) (at count first step : ℕ)
    → IsOrder s (order_of l.order s) → IsPieceOf s (order_of l.order s) from n at count first step
    → ((j : ℕ) → j < count → SpellOffset k l (get_or offsets (at + j) 0) (bytes_at l new (first + j * step)))
    → ((i : ℕ) → ((j : ℕ) → j < count → i ≢ first + j * step) → bytes_at l new i ≡ bytes_at l old i)
    → ((j : ℕ) → j < count → HasBytes k l (sample_of k (get_or offsets (at + j) 0))) → (p : Place) → IsPlaceOf s p
    → IsWrittenAt s k l from offsets old p ⊎ IsAmong s p at count → IsWrittenAt s k l from offsets new p
written_there s k l from n offsets old new at count first step lawful piece given others good p place known =
    elim (among_or_not s p at count) [ inl inside ↦ fresh inside | inr out ↦ kept out known ]
  where
    fresh : IsAmong s p at count → IsWrittenAt s k l from offsets new p
    fresh (j, lt, e) =
        let item : place_index s (order_of l.order s) p ≡ from + (first + j * step) = piece.items p place j lt e in
        let within : place_index s (order_of l.order s) p - from ≡ first + j * step = omega (arith, item) in
        let fits = good j lt in
        record { fits = λ le. rw e fits; there = λ le. rw (within, e) (given j lt fits) }

    kept : (IsAmong s p at count → ⊥) → IsWrittenAt s k l from offsets old p ⊎ IsAmong s p at count → IsWrittenAt s k l from offsets new p
    kept out (inr inside) = absurd (out inside)
    kept out (inl was) = record {
      fits = was.fits;
      there = λ le. others (place_index s (order_of l.order s) p - from) (λ j lt e. out (
        j,
        lt,
        item_there s (order_of l.order s) from n at count first step j p lawful piece place lt (omega (arith, le, e)),
      )) ∙ was.there le;
    }

write_next : (s : Sizes) (k : SampleKind) (l : Layout) (from n : ℕ) (offsets old new : List ℕ) (at count first : ℕ) → IsOrder s (order_of l.order s)
    → IsPieceOf s (order_of l.order s) from n at count first 1
    → ((j : ℕ) → j < count → SpellOffset k l (get_or offsets (at + j) 0) (bytes_at l new (first + j * 1)))
    → ((i : ℕ) → ((j : ℕ) → j < count → i ≢ first + j * 1) → bytes_at l new i ≡ bytes_at l old i)
    → ((j : ℕ) → j < count → HasBytes k l (sample_of k (get_or offsets (at + j) 0))) → AreWrittenTo s k l from first offsets old
    → AreWrittenTo s k l from (first + count) offsets new
write_next s k l from n offsets old new at count first lawful piece given others good earlier p place lt =
    written_there s k l from n offsets old new at count first 1 lawful piece given others good p place
    (elim (cases_lt (place_index s (order_of l.order s) p) (from + first)) [
      | inl low ↦ inl (earlier p place low)
      | inr here ↦ inr (among_next s (order_of l.order s) from n at count first p lawful piece place here (omega arith))
    ])

-- a piece whose items follow one another in the order
pub write_on : (s : Sizes) (k kind : SampleKind) (l : Layout) (from n : ℕ) (offsets old new : List ℕ) (at count first step done : ℕ) → kind ≡ k → step ≡ 1
    → first ≡ done → 0 < sample_count s → IsPieceOf s (order_of l.order s) from n at count first step
    → ((j : ℕ) → j < count → SpellOffset kind l (get_or offsets (at + j) 0) (bytes_at l new (first + j * step)))
    → ((i : ℕ) → ((j : ℕ) → j < count → i ≢ first + j * step) → bytes_at l new i ≡ bytes_at l old i)
    → ((j : ℕ) → j < count → HasBytes kind l (sample_of kind (get_or offsets (at + j) 0))) → AreWrittenTo s k l from done offsets old
    → AreWrittenTo s k l from (done + count) offsets new
write_on s k kind l from n offsets old new at count first step done kind_is step_is first_is some piece given others good earlier =
    write_next s k l from n offsets old new at count done (lawful_order l.order s some) (rw (first_is, step_is) at piece)
    (rw (kind_is, first_is, step_is) at given) (rw (first_is, step_is) at others) (rw kind_is at good) earlier

-- nothing is written yet
pub write_none : (s : Sizes) (k : SampleKind) (l : Layout) (from : ℕ) (offsets bytes : List ℕ) → AreWrittenTo s k l from 0 offsets bytes
write_none s k l from offsets bytes p place lt =
    record { fits = λ le. absurd (omega (arith, lt, le)); there = λ le. absurd (omega (arith, lt, le)) }

-- where all samples have their bytes, so have those of a piece
pub piece_fits : (s : Sizes) (k : SampleKind) (l : Layout) (offsets : List ℕ) (at count : ℕ) → at + count ≤ sample_count s → CanBeWritten s k l offsets
    → (j : ℕ) → j < count → HasBytes k l (sample_of k (get_or offsets (at + j) 0))
piece_fits s k l offsets at count room all j lt =
    let there = place_of s Bsq (at + j) tt (omega arith) in
    let here : index_in s.columns s.rows there.0.z there.0.y there.0.x ≡ at + j = sym (sequential_index s there.0) ∙ there.1.index in
    rw here at (all there.0 there.1.place)
