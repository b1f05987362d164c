-- Samples written out as raw bytes, one place after another.
use Rattle.std.proofs.Common.{◌≡◌, ◌+◌, ◌<◌, ℕ, pos, List, length, get_or, refl, sym, ap, ◌∙◌, subst, arith, inl, inr}
use Rattle.std.proofs.lemmas.List.{get_or-map, length-map}
use Rattle.std.proofs.lemmas.Bool.{cases_eq}
use Rattle.cube_core.proofs.Words.{Place, Layout, Sizes, sample_count, SampleKind, samples_of, Image, index_in, sample_at, IsOrder, IsPlaceOf, places}
use Rattle.cube_core.proofs.Words.{place_index, order_of, samples_in, HasBytesAt, HaveBytes, sample_by}
use Rattle.cube_core.proofs.Words.{CanBeWritten, HasBytes, sample_of, Bsq}
use Rattle.cube_core.proofs.Orders.{StandsAt, place_at_index, place_index_below, length-places}
use Rattle.cube_core.proofs.Bounds.{index_below}
use Rattle.cube_core.proofs.Offsets.{sample_at_offset}
use Rattle.cube_core.proofs.RawBytes.{image}
use Rattle.cube_core.proofs.Raws.{place_of, lawful_order}
use Rattle.cube_core.proofs.Walks.{sequential_index}

-- the sample that stands at i is the i-th
pub sample_there : (c : Image) (l : Layout) (q : Place) (i : ℕ) → IsOrder c.shape (order_of l.order c.shape) → i < sample_count c.shape
    → StandsAt c.shape (order_of l.order c.shape) q i → get_or (samples_in c l) i (pos 0) ≡ sample_at c q.z q.y q.x
unfolding samples_in
sample_there c l q i lawful lt stands =
    let item : get_or (places c.shape (order_of l.order c.shape)) i q ≡ q =
    subst (λ (n : ℕ). get_or (places c.shape (order_of l.order c.shape)) n q ≡ q) stands.index
    (place_at_index c.shape (order_of l.order c.shape) q q lawful stands.place) in
    get_or-map (λ (p : Place). sample_at c p.z p.y p.x) (places c.shape (order_of l.order c.shape)) i q (pos 0)
    (rw (length-places c.shape (order_of l.order c.shape) lawful) lt) ∙ ap (λ (p : Place). sample_at c p.z p.y p.x) item

pub length-samples_in : (c : Image) (l : Layout) → IsOrder c.shape (order_of l.order c.shape) → length (samples_in c l) ≡ sample_count c.shape
unfolding samples_in
length-samples_in c l lawful = length-map (places c.shape (order_of l.order c.shape)) _ ∙ length-places c.shape (order_of l.order c.shape) lawful

pub bytes_more : (c : Image) (l : Layout) (i : ℕ) → HasBytesAt c l i → HaveBytes c l i → HaveBytes c l (i + 1)
bytes_more c l i here before j lt = elim (cases_eq j i) [ inl e ↦ subst (λ (n : ℕ). HasBytesAt c l n) (sym e) here | inr other ↦ before j (omega arith) ]

-- the sample at a place is that of its offset
pub sample_of_place : (s : Sizes) (k : SampleKind) (offsets : List ℕ) (p : Place) → length offsets ≡ sample_count s → IsPlaceOf s p
    → sample_at (image s k offsets) p.z p.y p.x ≡ sample_by s k offsets p
sample_of_place s k offsets p full place = sample_at_offset (image s k offsets) s k offsets p.z p.y p.x (index_in s.columns s.rows p.z p.y p.x) refl refl
    (rw full (index_below s.columns s.rows s.bands p.z p.y p.x place.band place.row place.column))

-- samples that can be written have their bytes
pub have_bytes : (c : Image) (s : Sizes) (k : SampleKind) (l : Layout) (offsets : List ℕ)
    → record { shape = s; kind = k; samples = samples_of k offsets } ≡ c → 0 < sample_count s → length offsets ≡ sample_count s → CanBeWritten s k l offsets
    → HaveBytes c l (sample_count c.shape)
have_bytes c s k l offsets e some full can = rw (← e) each
  where
    each : HaveBytes (image s k offsets) l (sample_count s)
    each j lt =
        let lawful = lawful_order l.order s some in
        let there = place_of s (order_of l.order s) j lawful lt in
        rw (sample_there (image s k offsets) l there.0 j lawful lt there.1, sample_of_place s k offsets there.0 full there.1.place) (can there.0 there.1.place)

-- samples that have their bytes can be written
pub can_be_written : (c : Image) (s : Sizes) (k : SampleKind) (l : Layout) (offsets : List ℕ)
    → record { shape = s; kind = k; samples = samples_of k offsets } ≡ c → 0 < sample_count s → length offsets ≡ sample_count s
    → HaveBytes c l (sample_count c.shape) → CanBeWritten s k l offsets
can_be_written c s k l offsets e some full have p place =
    let all : HaveBytes (image s k offsets) l (sample_count s) = rw (← e) at have in
    let lawful = lawful_order l.order s some in
    let lt = place_index_below s (order_of l.order s) p lawful place in
    let stands : StandsAt s (order_of l.order s) p (place_index s (order_of l.order s) p) = record { place = place; index = refl } in
    rw (sample_there (image s k offsets) l p (place_index s (order_of l.order s) p) lawful lt stands, sample_of_place s k offsets p full place) at (all
    (place_index s (order_of l.order s) p) lt)

-- the samples at all places are those of all offsets
pub fit_at_places : (s : Sizes) (k : SampleKind) (l : Layout) (offsets : List ℕ) → length offsets ≡ sample_count s
    → ((i : ℕ) → i < length offsets → HasBytes k l (sample_of k (get_or offsets i 0))) → CanBeWritten s k l offsets
fit_at_places s k l offsets full all p place =
    all (index_in s.columns s.rows p.z p.y p.x) (rw full (index_below s.columns s.rows s.bands p.z p.y p.x place.band place.row place.column))

pub fit_at_offsets : (s : Sizes) (k : SampleKind) (l : Layout) (offsets : List ℕ) → length offsets ≡ sample_count s → CanBeWritten s k l offsets
    → (i : ℕ) → i < length offsets → HasBytes k l (sample_of k (get_or offsets i 0))
fit_at_offsets s k l offsets full all i lt =
    let there = place_of s Bsq i tt (rw full at lt) in
    let here : index_in s.columns s.rows there.0.z there.0.y there.0.x ≡ i = sym (sequential_index s there.0) ∙ there.1.index in
    rw here at (all there.0 there.1.place)
