-- Samples kept as offsets from the least one.
use Rattle.std.proofs.Common.{◌≡◌, ◌+◌, ◌*◌, ◌<◌, ◌≤◌, ◌-◌, ◌^◌, ℕ, suc, zero, Bool, true, false, ℤ, pos, ◌-ℤ◌, ◌≤ℤ◌, List, length, map, get_or, set}
use Rattle.std.proofs.Common.{take, drop, refl, sym, ap, ◌∙◌, subst, arith, pow-suc, inl, inr}
use Rattle.std.proofs.lemmas.List.{get_or-map, map-set, get_or-take, get_or-drop, get_or-set_same, get_or-set_other, length-set}
use Rattle.std.proofs.lemmas.Bool.{cases_eq}
use Rattle.cube_core.proofs.Words.{SampleKind, IsKind, IsSample, sample_of, smin, Image, sample_at, index_in, put, Sizes, samples_of, AreOffsets, ints}
use Rattle.cube_core.proofs.Words.{AreRowOffsets}
use Rattle.cube_core.proofs.Bounds.{power_grows}

pub doubled : (bits : ℕ) → 1 ≤ bits → 2 ^ bits ≡ 2 * 2 ^ (bits - 1)
doubled zero h = absurd (omega arith)
doubled (suc n) h = let e : suc n - 1 ≡ n = omega arith in rw (e, pow-suc 2 n) (omega arith)

-- how far a sample stands above the least one, and how many samples there are at most
range_by : (signed : Bool) (bits : ℕ) (v : ℤ) → 1 ≤ bits → IsSample (record { signed = signed; bits = bits }) v
    → (v -ℤ smin (record { signed = signed; bits = bits })) ≤ℤ (pos (2 ^ bits) -ℤ pos 1)
range_by true bits v h s = omega (arith, ints, s.1, doubled bits h)
range_by false bits v h s = omega (arith, ints, s.1)

pub offset_range : (k : SampleKind) (v : ℤ) → IsKind k → IsSample k v → ((v -ℤ smin k) ≤ℤ (pos (2 ^ k.bits) -ℤ pos 1)) × (2 ^ k.bits ≤ 2 ^ 16)
offset_range k v kind s = (range_by k.signed k.bits v (omega (arith, kind)) s, power_grows k.bits 16 kind.1)

-- an offset within the kind's bits is a sample of the kind
in_kind : (signed : Bool) (bits offset : ℕ) → 2 ≤ bits → offset < 2 ^ bits
    → IsSample (record { signed = signed; bits = bits }) (sample_of (record { signed = signed; bits = bits }) offset)
in_kind true bits offset a b = let e : 2 ^ bits ≡ 2 * 2 ^ (bits - 1) = doubled bits (omega arith) in (omega (arith, ints), omega (arith, ints))
in_kind false bits offset a b = (omega (arith, ints), omega (arith, ints))

pub offset_is_sample : (k : SampleKind) (offset : ℕ) → IsKind k → offset < 2 ^ k.bits → IsSample k (sample_of k offset)
offset_is_sample k offset h b = in_kind k.signed k.bits offset h.0 b

pub sample_read : (k : SampleKind) (offsets : List ℕ) (i : ℕ) → i < length offsets → get_or (samples_of k offsets) i (pos 0) ≡ sample_of k (get_or offsets i 0)
unfolding samples_of
sample_read k offsets i lt = get_or-map (sample_of k) offsets i 0 (pos 0) lt

pub sample_written : (k : SampleKind) (offsets : List ℕ) (i offset : ℕ) (v : ℤ) → sample_of k offset ≡ v
    → samples_of k (set offsets i offset) ≡ set (samples_of k offsets) i v
unfolding samples_of
sample_written k offsets i offset v e = map-set (sample_of k) offsets i offset ∙ ap (set (map (sample_of k) offsets) i) e

-- the sample at a place is that of its offset
pub sample_at_offset : (c : Image) (s : Sizes) (k : SampleKind) (offsets : List ℕ) (z y x i : ℕ)
    → record { shape = s; kind = k; samples = samples_of k offsets } ≡ c → i ≡ index_in s.columns s.rows z y x → i < length offsets
    → sample_at c z y x ≡ sample_of k (get_or offsets i 0)
unfolding sample_at
sample_at_offset c s k offsets z y x i e f lt = rw (← e, ← f) (sample_read k offsets i lt)

pub image_put : (c : Image) (s : Sizes) (k : SampleKind) (offsets : List ℕ) (z y x i offset : ℕ) (v : ℤ)
    → record { shape = s; kind = k; samples = samples_of k offsets } ≡ c → i ≡ index_in s.columns s.rows z y x → sample_of k offset ≡ v
    → record { shape = s; kind = k; samples = samples_of k (set offsets i offset) } ≡ put c z y x v
image_put c s k offsets z y x i offset v e f h = rw (← e, ← f, sample_written k offsets i offset v h) refl

-- one offset is replaced by another within the kind's bits
pub are_offsets_put : (s : Sizes) (k : SampleKind) (offsets : List ℕ) (i offset : ℕ) → AreOffsets s k offsets → i < length offsets → offset < 2 ^ k.bits
    → AreOffsets s k (set offsets i offset)
are_offsets_put s k offsets i offset h lt below = record { whole = rw (length-set {A = ℕ}) h.whole; range = within }
  where
    within : (j : ℕ) → j < length (set offsets i offset) → get_or (set offsets i offset) j 0 < 2 ^ k.bits
    within j small = elim (cases_eq j i) [
      | inl e ↦ rw (e, get_or-set_same offsets i offset 0 lt) below
      | inr other ↦ rw (get_or-set_other offsets i j offset 0 other) (h.range j (rw (length-set {A = ℕ}) at small))
    ]

-- a row's offsets are those that stand in the list from its first place on
pub row_offsets : (c : Image) (s : Sizes) (k : SampleKind) (offsets : List ℕ) (z y i : ℕ) → record { shape = s; kind = k; samples = samples_of k offsets } ≡ c
    → AreOffsets s k offsets → i ≡ index_in s.columns s.rows z y 0 → i + s.columns ≤ length offsets
    → AreRowOffsets c z y (take (i + s.columns - i) (drop i offsets))
row_offsets c s k offsets z y i e h f fits x lt =
    let here : s.columns ≡ c.shape.columns = ap (λ (d : Image). d.shape.columns) e in
    let within : x < i + s.columns - i = omega arith in
    let there : i + x < length offsets = omega arith in
    let read : get_or (take (i + s.columns - i) (drop i offsets)) x 0 ≡ get_or offsets (i + x) 0 =
    get_or-take (i + s.columns - i) (drop i offsets) x 0 within ∙ get_or-drop i offsets x 0 in
    let place : i + x ≡ index_in s.columns s.rows z y x = omega arith in
    let kind : k ≡ c.kind = ap (λ (d : Image). d.kind) e in
    let sample = sample_at_offset c s k offsets z y x (i + x) e place there in (
      subst (λ (j : SampleKind). get_or (take (i + s.columns - i) (drop i offsets)) x 0 < 2 ^ j.bits) kind (rw read (h.range (i + x) there)),
      sample ∙ ap (λ (j : SampleKind). sample_of j (get_or offsets (i + x) 0)) kind ∙ ap (sample_of c.kind) (sym read),
    )
