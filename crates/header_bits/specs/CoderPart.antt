-- The coder part of a header, two bytes (CCSDS 123.0-B-1, "Entropy coder metadata").
use Rattle.std.specs.Prelude.{ℕ, ◌+◌, ◌-◌, ◌*◌, ◌^◌, ◌==◌, ◌&&◌, not, nat_lt, Bool, true, false, if◌then◌else◌, List, [], ◌∷◌, slice_index, pos}
use Rattle.cube_core.specs.declared.fault.Fault.TheVariants.{FieldRange, Disagree}
use Rattle.cube_core.specs.declared.fault.Field.TheVariants as field
use Rattle.cube_core.specs.declared.fault.Rule.TheVariants as rule
use Rattle.cube_core.specs.Steps.{Test, ◌>>◌, refuse_if}
use Rattle.header_bits.specs.declared.layout.Slot.{Slot}
use Rattle.header_bits.specs.declared.layout.Slot.TheVariants.{Reserved, Plain, Modulo}
use Rattle.header_bits.specs.declared.image_part.ImagePart.{ImagePart}
use Rattle.header_bits.specs.declared.coder_part.CoderPart.{CoderPart}
use Rattle.header_bits.specs.declared.coder_part.CoderPart.TheVariants.{Sample, Block}
use Rattle.header_bits.specs.Parts.{Part, reserved_test}
use Rattle.header_bits.specs.ImagePart.{flag}

abbrev pub sample_fields : List Slot
sample_fields =
    Modulo 5  -- 0 unary length limit
    ∷ Plain 3 4  -- 1 rescaling counter size
    ∷ Modulo 3  -- 2 first exponent of the counter
    ∷ Plain 4 0  -- 3 accumulator constant
    ∷ Plain 1 0  -- 4 accumulator table in the file
    ∷ []

abbrev pub sample_tests : ImagePart → List ℕ → Test
sample_tests i v =
    let table = slice_index v 4 == 1 in
    refuse_if (nat_lt (slice_index v 0) 8) (FieldRange field.Umax (pos (slice_index v 0)))
    >> refuse_if (nat_lt 9 (slice_index v 1)) (FieldRange field.GammaStar (pos (slice_index v 1)))
    >> refuse_if (nat_lt (slice_index v 1) (slice_index v 2 + 1)) (Disagree rule.CounterOrder)
    >> refuse_if (not table && nat_lt (i.kind.bits - 2) (slice_index v 3)) (Disagree rule.StartConstant)
    >> refuse_if (table && nat_lt (slice_index v 3) 15) (Disagree rule.ConstantWithTable)

abbrev pub sample_contents : List ℕ → CoderPart
sample_contents v = Sample (slice_index v 0) (slice_index v 1) (slice_index v 2) (slice_index v 3) (slice_index v 4 == 1)

abbrev pub block_fields : List Slot
block_fields =
    Reserved 1  -- 0
    ∷ Plain 2 0  -- 1 block size: 8, 16, 32 or 64
    ∷ Plain 1 0  -- 2 restricted set of code options
    ∷ Modulo 12  -- 3 reference sample interval
    ∷ []

abbrev pub block_tests : ℕ → ImagePart → List ℕ → Test
block_tests at i v =
    let restricted = slice_index v 2 == 1 in
    reserved_test at 1 (slice_index v 0)
    >> refuse_if (restricted && nat_lt 4 i.kind.bits) (Disagree rule.RestrictedOverFour)

abbrev pub block_contents : List ℕ → CoderPart
block_contents v = Block (8 * 2 ^ slice_index v 1) (slice_index v 2 == 1) (slice_index v 3)

-- the part of the block-adaptive coder (true) or of the sample-adaptive one (false); its first bit is at position `at` in the file
abbrev pub coder_by : Bool → ℕ → ImagePart → Part CoderPart
coder_by true at i = record { fields = block_fields; tests = block_tests at i; contents = block_contents }
coder_by false at i = record { fields = sample_fields; tests = sample_tests i; contents = sample_contents }

unfoldable pub coder : ℕ → ImagePart → Part CoderPart
coder at i = coder_by i.block at i

-- the code of a block size
abbrev pub size_code : ℕ → ℕ
size_code size = if size == 8 then 0 else if size == 16 then 1 else if size == 32 then 2 else 3

-- the bits that a coder writes
abbrev pub coder_fields : CoderPart → List Slot
coder_fields (Sample umax gamma_star gamma_zero constant table) = sample_fields
coder_fields (Block size restricted reference) = block_fields

abbrev pub coder_numbers : CoderPart → List ℕ
coder_numbers (Sample umax gamma_star gamma_zero constant table) = umax ∷ gamma_star ∷ gamma_zero ∷ constant ∷ flag table ∷ []
coder_numbers (Block size restricted reference) = 0 ∷ size_code size ∷ flag restricted ∷ reference ∷ []
