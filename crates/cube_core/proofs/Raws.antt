-- Samples taken in from raw bytes.
use Rattle.std.proofs.Common.{◌≡◌, ◌+◌, ◌*◌, ◌/◌, ◌%◌, ◌^◌, ◌<◌, ◌≤◌, ◌-◌, ℕ, suc, zero, List, ◌∷◌, length, drop, get_or, refl, sym, ap, ◌∙◌, subst, arith}
use Rattle.std.proofs.Common.{add-one, drop-cons, inl, inr, min}
use Rattle.std.proofs.lemmas.List.{length-drop}
use Rattle.std.proofs.lemmas.Bool.{cases_eq}
use Rattle.cube_core.proofs.Words.{Order, Bsq, Bi, Place, Layout, RawOrder, Sizes, sample_count, SampleKind, IsSample, IsOrder, IsPlaceOf, place_index}
use Rattle.cube_core.proofs.Words.{places, IsLayout, order_of, raw_value, bytes_at, AreSamples}
use Rattle.cube_core.specs.declared.layout.RawOrder.TheVariants as raw
use Rattle.std.proofs.lemmas.Nat.{mul-le}
use Rattle.cube_core.proofs.Orders.{StandsAt, sequential_place_is, interleaved_place_is, place_at_index, length-places}

factor_positive : (a c i : ℕ) → i < a * c → 0 < c
factor_positive a zero i lt = absurd (omega arith)
factor_positive a (suc c) i lt = omega arith

-- some place stands at each index
pub place_of : (s : Sizes) (o : Order) (i : ℕ) → IsOrder s o → i < sample_count s → (p : Place) × StandsAt s o p i
place_of s Bsq i lawful lt =
    let columns : 0 < s.columns = factor_positive (s.bands * s.rows) s.columns i lt in
    let rows : 0 < s.rows = factor_positive (s.bands * s.columns) s.rows i (omega arith) in
    (record { z = i / s.columns / s.rows; y = i / s.columns % s.rows; x = i % s.columns }, sequential_place_is s i columns rows lt)
place_of s (Bi depth) i lawful lt =
    let columns : 0 < s.columns = factor_positive (s.bands * s.rows) s.columns i lt in
    let bands : 0 < s.bands = factor_positive (s.rows * s.columns) s.bands i (omega arith) in
    let r : ℕ = i % (s.bands * s.columns) in
    let g : ℕ = r / (depth * s.columns) in
    let q : ℕ = r % (depth * s.columns) in
    let size : ℕ = min depth (s.bands - g * depth) in
    let found = interleaved_place_is s depth i (i % (s.bands * s.columns)) (i % (s.bands * s.columns) / (depth * s.columns))
    (i % (s.bands * s.columns) % (depth * s.columns)) _ bands columns lawful.0 lt refl refl refl refl in
    (_, found.0)

-- two places with one index are one
pub same_place : (s : Sizes) (o : Order) (p q : Place) → IsOrder s o → IsPlaceOf s p → IsPlaceOf s q → place_index s o p ≡ place_index s o q → p ≡ q
same_place s o p q lawful a b e = sym (place_at_index s o p p lawful a) ∙ ap (λ (i : ℕ). get_or (places s o) i p) e ∙ place_at_index s o q p lawful b

-- the first of the places after i of them stands at i
pub next_stands : (s : Sizes) (o : Order) (i : ℕ) (q : Place) (rest : List Place) → IsOrder s o → drop i (places s o) ≡ q ∷ rest
    → (i < sample_count s) × StandsAt s o q i × (rest ≡ drop (i + 1) (places s o))
next_stands s o i q rest lawful e =
    let long : length (drop i (places s o)) ≡ suc (length rest) = ap length e in
    let lt : i < sample_count s = omega (arith, long, length-drop i (places s o), length-places s o lawful) in
    let there = place_of s o i lawful lt in
    let split : drop i (places s o) ≡ get_or (places s o) i q ∷ drop (suc i) (places s o) =
    drop-cons (places s o) i q (omega (arith, length-places s o lawful)) in
    let both : q ∷ rest ≡ get_or (places s o) i q ∷ drop (suc i) (places s o) = sym e ∙ split in
    let item : get_or (places s o) i q ≡ there.0 =
    subst (λ (k : ℕ). get_or (places s o) k q ≡ there.0) there.1.index (place_at_index s o there.0 q lawful there.1.place) in
    let same : q ≡ there.0 = heads q (get_or (places s o) i q) rest (drop (suc i) (places s o)) both ∙ item in
    (lt, subst (λ (p : Place). StandsAt s o p i) (sym same) there.1, rw add-one (tails q (get_or (places s o) i q) rest (drop (suc i) (places s o)) both))
  where
    heads : (a b : Place) (xs ys : List Place) → a ∷ xs ≡ b ∷ ys → a ≡ b
    heads a b xs ys h = cc

    tails : (a b : Place) (xs ys : List Place) → a ∷ xs ≡ b ∷ ys → xs ≡ ys
    tails a b xs ys h = cc

pub samples_more : (k : SampleKind) (l : Layout) (bytes : List ℕ) (i : ℕ) → IsSample k (raw_value l k (bytes_at l bytes i)) → AreSamples k l bytes i
    → AreSamples k l bytes (i + 1)
samples_more k l bytes i here before j lt =
    elim (cases_eq j i) [
      | inl e ↦ subst (λ (n : ℕ). IsSample k (raw_value l k (bytes_at l bytes n))) (sym e) here
      | inr other ↦ before j (omega arith)
    ]

pub lawful_order : (o : RawOrder) (s : Sizes) → 0 < sample_count s → IsOrder s (order_of o s)
lawful_order raw.Bsq s h = tt
lawful_order raw.Bil s h = let bands : 0 < s.bands = factor_positive (s.rows * s.columns) s.bands 0 (omega arith) in (omega arith, omega arith)
lawful_order raw.Bip s h = let bands : 0 < s.bands = factor_positive (s.rows * s.columns) s.bands 0 (omega arith) in (omega arith, omega arith)

-- the i-th sample's bytes are there
pub bytes_there : (l : Layout) (i count : ℕ) → IsLayout l → i < count → i * l.bytes + l.bytes ≤ count * l.bytes
bytes_there l i count h lt = let p : suc i * l.bytes ≤ count * l.bytes = mul-le (suc i) l.bytes count l.bytes lt (omega arith) in omega arith

pub product_small : (l : Layout) (count : ℕ) → IsLayout l → count ≤ 2 ^ 48 → count * l.bytes ≤ 2 ^ 49
product_small l count (inl e) h = rw e (omega arith)
product_small l count (inr e) h = rw e (omega arith)
