-- The kind of an image's samples: signed or not, and their number of bits (CCSDS 123.0-B-1, "Image").
use Rattle.std.specs.Prelude.{ℕ, ◌-◌, ◌^◌, nat_le, ◌&&◌, Bool, ℤ, pos, neg_ℤ, ◌+ℤ◌, ◌-ℤ◌, ◌≤ℤ◌, if◌then◌else◌, Result, Ok, Err}
use Rattle.cube_core.specs.declared.fault.Fault.{Fault}
use Rattle.cube_core.specs.declared.fault.Fault.TheVariants.{FieldRange}
use Rattle.cube_core.specs.declared.fault.Field.TheVariants.{DynamicRange}
use Rattle.cube_core.specs.Shape.{InRange}

-- whether samples are signed, and D, their dynamic range in bits
pub record SampleKind : Type 0 where
  pub signed : Bool
  pub bits : ℕ

-- D is 2 to 16
abbrev pub IsKind : SampleKind → Type 0
IsKind k = InRange 2 16 k.bits

-- the kind, or the refusal of its number of bits
abbrev pub kind_or_fault : SampleKind → Result SampleKind Fault
kind_or_fault k = if nat_le 2 k.bits && nat_le k.bits 16 then Ok k else Err (FieldRange DynamicRange (pos k.bits))

-- s_min, the least sample
abbrev pub smin : SampleKind → ℤ
smin k = if k.signed then neg_ℤ (pos (2 ^ (k.bits - 1))) else pos 0

-- s_max, the greatest sample
abbrev pub smax : SampleKind → ℤ
smax k = if k.signed then pos (2 ^ (k.bits - 1)) -ℤ pos 1 else pos (2 ^ k.bits) -ℤ pos 1

-- s_mid, the middle sample
abbrev pub smid : SampleKind → ℤ
smid k = if k.signed then pos 0 else pos (2 ^ (k.bits - 1))

-- a sample of the kind
abbrev pub IsSample : SampleKind → ℤ → Type 0
IsSample k v = (smin k ≤ℤ v) × (v ≤ℤ smax k)

-- the sample with an offset: s_min + offset
abbrev pub sample_of : SampleKind → ℕ → ℤ
sample_of k offset = smin k +ℤ pos offset
