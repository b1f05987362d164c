-- How the samples of a cube lie in raw bytes.
use Rattle.std.specs.Prelude.{ℕ, ◌≡◌, ◌⊎◌, ◌+◌, ◌-◌, ◌*◌, ◌/◌, ◌%◌, ◌^◌, ◌<◌, ◌≤◌, ◌==◌, nat_le, ◌&&◌, Bool, ℤ, pos, negsuc, ◌-ℤ◌, List, [], ◌∷◌, length}
use Rattle.std.specs.Prelude.{map, take, drop, slice_index, slice_index_or, if◌then◌else◌}
use Rattle.std.specs.List.{flat_map}
use Rattle.cube_core.specs.declared.layout.Layout.{Layout}
use Rattle.cube_core.specs.declared.layout.RawOrder.{RawOrder}
use Rattle.cube_core.specs.declared.layout.RawOrder.TheVariants as raw
use Rattle.cube_core.specs.declared.order.Order.{Order}
use Rattle.cube_core.specs.declared.order.Order.TheVariants.{Bsq, Bi}
use Rattle.cube_core.specs.Shape.{Sizes}
use Rattle.cube_core.specs.Kind.{SampleKind, IsSample}
use Rattle.cube_core.specs.Image.{Image, sample_at}
use Rattle.cube_core.specs.Order.{places}

-- a sample has one byte or two
abbrev pub IsLayout : Layout → Type 0
IsLayout l = (l.bytes ≡ 1) ⊎ (l.bytes ≡ 2)

-- BIL is interleaving with depth 1, BIP with the number of bands as its depth
abbrev pub order_of : RawOrder → Sizes → Order
order_of raw.Bsq s = Bsq
order_of raw.Bil s = Bi 1
order_of raw.Bip s = Bi s.bands

-- the number that bytes spell, low byte first if `little`
abbrev pub raw_number : Layout → List ℕ → ℕ
raw_number l bytes =
    if l.bytes == 1 then slice_index bytes 0
    else if l.little then slice_index bytes 0 + 256 * slice_index bytes 1
    else 256 * slice_index bytes 0 + slice_index bytes 1

-- a number of `bytes` bytes as an integer: in two's complement if signed
abbrev pub twos_complement : Bool → ℕ → ℕ → ℤ
twos_complement signed bytes number =
    if signed && nat_le (2 ^ (8 * bytes - 1)) number then pos number -ℤ pos (2 ^ (8 * bytes)) else pos number

-- the sample that bytes spell
abbrev pub raw_value : Layout → SampleKind → List ℕ → ℤ
raw_value l k bytes = twos_complement k.signed l.bytes (raw_number l bytes)

-- a sample as a number of `bytes` bytes, in two's complement
abbrev pub raw_code : ℕ → ℤ → ℕ
raw_code bytes (pos n) = n
raw_code bytes (negsuc n) = 2 ^ (8 * bytes) - (n + 1)

-- a sample's bytes
unfoldable pub sample_bytes : Layout → ℤ → List ℕ
sample_bytes l v =
    let number = raw_code l.bytes v in
    if l.bytes == 1 then number ∷ []
    else if l.little then number % 256 ∷ number / 256 ∷ []
    else number / 256 ∷ number % 256 ∷ []

-- the bytes of all samples, in the layout's order
unfoldable pub raw_bytes : Image → Layout → List ℕ
raw_bytes c l = flat_map (λ p. sample_bytes l (sample_at c p.z p.y p.x)) (places c.shape (order_of l.order c.shape))

-- the bytes of the i-th sample
abbrev pub bytes_at : Layout → List ℕ → ℕ → List ℕ
bytes_at l bytes i = take l.bytes (drop (i * l.bytes) bytes)

-- the i-th sample is the first that is not of the kind
pub record IsFirstBad (k : SampleKind) (l : Layout) (bytes : List ℕ) (i : ℕ) : Type 0 where
  pub there : (i + 1) * l.bytes ≤ length bytes
  pub bad : IsSample k (raw_value l k (bytes_at l bytes i)) → ⊥
  pub first : (j : ℕ) → j < i → IsSample k (raw_value l k (bytes_at l bytes j))

-- a sample that fits in the layout's bytes: one of the kind with as many bits as these have
abbrev pub HasBytes : SampleKind → Layout → ℤ → Type 0
HasBytes k l v = IsSample (record { signed = k.signed; bits = 8 * l.bytes }) v

-- the samples in the layout's order
unfoldable pub samples_in : Image → Layout → List ℤ
samples_in c l = map (λ p. sample_at c p.z p.y p.x) (places c.shape (order_of l.order c.shape))

-- the i-th sample in the layout's order fits in its bytes
abbrev pub HasBytesAt : Image → Layout → ℕ → Type 0
HasBytesAt c l i = HasBytes c.kind l (slice_index_or (samples_in c l) i (pos 0))

-- the first i samples fit in their bytes
abbrev pub HaveBytes : Image → Layout → ℕ → Type 0
HaveBytes c l i = (j : ℕ) → j < i → HasBytesAt c l j

-- the i-th sample is the first that doesn't fit in its bytes
pub record IsFirstUnfit (c : Image) (l : Layout) (i : ℕ) : Type 0 where
  pub there : i < length (samples_in c l)
  pub unfit : HasBytesAt c l i → ⊥
  pub first : HaveBytes c l i
