-- The raw bytes of samples that were taken in from bytes are those bytes.
use Rattle.std.proofs.Common.{◌≡◌, ◌+◌, ◌*◌, ◌/◌, ◌%◌, ◌^◌, ◌<◌, ◌-◌, ℕ, suc, zero, pos, negsuc, ◌-ℤ◌, ℤ, Bool, true, false, leb, List, [], ◌∷◌, length}
use Rattle.std.proofs.Common.{drop, replicate, get_or, refl, ap, ◌∙◌, arith, inl, inr, length-take}
use Rattle.std.proofs.lemmas.List.{get_or-take, get_or-drop, get_or_past, length-map, length-append}
use Rattle.std.proofs.lemmas.Bool.{cases_lt}
use Rattle.cube_core.proofs.Words.{Place, Layout, Sizes, AreSizes, sample_count, SampleKind, IsKind, sample_of, Image, IsCube, sample_at, ints}
use Rattle.cube_core.proofs.Words.{samples_of, AreOffsets, places, IsLayout, order_of, raw_code, twos_complement, raw_value, bytes_at, sample_bytes, flat_map}
use Rattle.cube_core.proofs.Words.{raw_bytes, if◌then◌else◌, ◌&&◌}
use Rattle.cube_core.proofs.Offsets.{sample_read, offset_is_sample}
use Rattle.cube_core.proofs.Orders.{length-places}
use Rattle.cube_core.proofs.Raws.{lawful_order}

-- ---- one sample

code_by : (test : Bool) (bytes number : ℕ) → number < 2 ^ (8 * bytes)
    → raw_code bytes (if test then pos number -ℤ pos (2 ^ (8 * bytes)) else pos number) ≡ number
code_by true bytes number h =
    let below : pos number -ℤ pos (2 ^ (8 * bytes)) ≡ negsuc (2 ^ (8 * bytes) - number - 1) = omega (arith, ints) in
    rw below (omega arith)
code_by false bytes number h = refl

-- the code of the sample that a number spells is the number
pub code_again : (signed : Bool) (bytes number : ℕ) → number < 2 ^ (8 * bytes) → raw_code bytes (twos_complement signed bytes number) ≡ number
code_again signed bytes number h = code_by (signed && leb (2 ^ (8 * bytes - 1)) number) bytes number h

abbrev pub AreBytes : List ℕ → Type 0
AreBytes bytes = (i : ℕ) → get_or bytes i 0 < 256

one_again : (l : Layout) (k : SampleKind) (bytes : List ℕ) → AreBytes bytes → l.bytes ≡ 1 → length bytes ≡ 1 → sample_bytes l (raw_value l k bytes) ≡ bytes
unfolding sample_bytes
one_again l k [] h e n = absurd (omega (arith, n))
one_again l k (a ∷ []) h e n = rw (e, code_again k.signed 1 a (h 0)) refl
one_again l k (a ∷ b ∷ bs) h e n = absurd (omega (arith, n))

two_again : (little : Bool) (l : Layout) (k : SampleKind) (bytes : List ℕ) → AreBytes bytes → l.little ≡ little → l.bytes ≡ 2 → length bytes ≡ 2
    → sample_bytes l (raw_value l k bytes) ≡ bytes
unfolding sample_bytes
two_again little l k [] h f e n = absurd (omega (arith, n))
two_again little l k (a ∷ []) h f e n = absurd (omega (arith, n))
two_again true l k (a ∷ b ∷ []) h f e n =
    let low : (a + 256 * b) % 256 ≡ a = omega (arith, h 0) in
    let high : (a + 256 * b) / 256 ≡ b = omega (arith, h 0) in
    rw (e, f, code_again k.signed 2 (a + 256 * b) (omega (arith, h 0, h 1)), low, high) refl
two_again false l k (a ∷ b ∷ []) h f e n =
    let low : (256 * a + b) % 256 ≡ b = omega (arith, h 1) in
    let high : (256 * a + b) / 256 ≡ a = omega (arith, h 1) in
    rw (e, f, code_again k.signed 2 (256 * a + b) (omega (arith, h 0, h 1)), low, high) refl
two_again little l k (a ∷ b ∷ c ∷ bs) h f e n = absurd (omega (arith, n))

-- the bytes of the sample that bytes spell are these bytes
pub sample_bytes_again : (l : Layout) (k : SampleKind) (bytes : List ℕ) → IsLayout l → AreBytes bytes → length bytes ≡ l.bytes
    → sample_bytes l (raw_value l k bytes) ≡ bytes
sample_bytes_again l k bytes (inl e) h n = one_again l k bytes h e (n ∙ e)
sample_bytes_again l k bytes (inr e) h n = two_again l.little l k bytes h refl e (n ∙ e)

-- ---- all samples

abbrev pub image : Sizes → SampleKind → List ℕ → Image
image s k offsets = record { shape = s; kind = k; samples = samples_of k offsets }

-- the bytes of a sample are bytes
pub bytes_at_small : (l : Layout) (bytes : List ℕ) (i : ℕ) → AreBytes bytes → AreBytes (bytes_at l bytes i)
bytes_at_small l bytes i small j =
    elim (cases_lt j l.bytes) [
      | inl lt ↦ rw (get_or-take l.bytes (drop (i * l.bytes) bytes) j 0 lt, get_or-drop (i * l.bytes) bytes j 0) (small (i * l.bytes + j))
      | inr past ↦ rw (get_or_past (bytes_at l bytes i) j 0 (omega (arith, length-take l.bytes (drop (i * l.bytes) bytes)))) (omega arith)
    ]

-- ---- how many bytes there are

length-sample_by : (little : Bool) (l : Layout) (v : ℤ) → l.little ≡ little → IsLayout l → length (sample_bytes l v) ≡ l.bytes
unfolding sample_bytes
length-sample_by little l v f (inl e) = rw e refl
length-sample_by true l v f (inr e) = rw (e, f) refl
length-sample_by false l v f (inr e) = rw (e, f) refl

pub length-sample_bytes : (l : Layout) (v : ℤ) → IsLayout l → length (sample_bytes l v) ≡ l.bytes
length-sample_bytes l v layout = length-sample_by l.little l v refl layout

length-pieces : {A : Type 0} (f : A → List ℕ) (xs : List A) (w : ℕ) → ((x : A) → length (f x) ≡ w) → length (flat_map f xs) ≡ length xs * w
length-pieces f [] w each = omega arith
length-pieces f (x ∷ xs) w each = rw (length-append (f x) (flat_map f xs), each x, length-pieces f xs w each) (omega arith)

pub length-raw_bytes : (c : Image) (l : Layout) → IsLayout l → 0 < sample_count c.shape → length (raw_bytes c l) ≡ sample_count c.shape * l.bytes
unfolding raw_bytes
length-raw_bytes c l layout some =
    length-pieces (λ (p : Place). sample_bytes l (sample_at c p.z p.y p.x)) (places c.shape (order_of l.order c.shape)) l.bytes
    (λ p. length-sample_bytes l (sample_at c p.z p.y p.x) layout)
    ∙ ap (λ (n : ℕ). n * l.bytes) (length-places c.shape (order_of l.order c.shape) (lawful_order l.order c.shape some))

-- ---- offsets

pub zeros_are_samples : (k : SampleKind) (n offset : ℕ) → sample_of k offset ≡ pos 0 → samples_of k (replicate n offset) ≡ replicate n (pos 0)
unfolding samples_of
zeros_are_samples k zero offset e = refl
zeros_are_samples k (suc n) offset e = rw (e, zeros_are_samples k n offset e) refl

-- what is kept as offsets is a cube
pub is_cube : (s : Sizes) (k : SampleKind) (offsets : List ℕ) → AreSizes s → IsKind k → AreOffsets s k offsets
    → IsCube (record { shape = s; kind = k; samples = samples_of k offsets })
unfolding samples_of
is_cube s k offsets sizes bits here =
    let long : length (samples_of k offsets) ≡ length offsets = length-map offsets (sample_of k) in
    record {
      sizes = sizes;
      bits = bits;
      whole = long ∙ here.whole;
      range = λ i lt. let within : i < length offsets = rw long at lt in
          rw (sample_read k offsets i within) (offset_is_sample k (get_or offsets i 0) bits (here.range i within));
    }
