-- Raw numbers as offsets from the least sample of a kind, and back.
use Rattle.std.specs.Prelude.{ℕ, ◌≡◌, ◌+◌, ◌*◌, ◌%◌, ◌-◌, ◌<◌, ◌^◌, Bool, List, if◌then◌else◌}
use Rattle.cube_core.specs.declared.layout.Layout.{Layout}
use Rattle.cube_core.specs.Kind.{SampleKind, IsSample, sample_of}
use Rattle.cube_core.specs.Layout.{raw_value, bytes_at, sample_bytes, HasBytes}

-- half of 2^(8·bytes) if samples are signed, else 0: added to a raw number, modulo 2^(8·bytes), it gives the rebased number
abbrev pub half_of : Bool → ℕ → ℕ
half_of signed bytes = if signed then 2 ^ (8 * bytes - 1) else 0

-- the offset of a sample of 0
abbrev pub zero_offset : SampleKind → ℕ
zero_offset k = if k.signed then 2 ^ (k.bits - 1) else 0

-- the raw number of a rebased one: rebased - half, modulo 2^(8·bytes)
abbrev pub number_of_rebased : Bool → ℕ → ℕ → ℕ
number_of_rebased signed bytes rebased = (rebased + (2 ^ (8 * bytes) - half_of signed bytes)) % 2 ^ (8 * bytes)

-- an offset that is below 2^D exactly if the i-th sample is of the kind, and is then that sample's offset
pub record StandsFor (k : SampleKind) (l : Layout) (bytes : List ℕ) (i offset : ℕ) : Type 0 where
  pub value : offset < 2 ^ k.bits → sample_of k offset ≡ raw_value l k (bytes_at l bytes i)
  pub range : IsSample k (raw_value l k (bytes_at l bytes i)) → offset < 2 ^ k.bits

-- bytes that spell the sample with an offset, if it fits in that many
abbrev pub SpellOffset : SampleKind → Layout → ℕ → List ℕ → Type 0
SpellOffset k l offset bytes = HasBytes k l (sample_of k offset) → bytes ≡ sample_bytes l (sample_of k offset)
