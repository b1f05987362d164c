-- The image part of a header, twelve bytes (CCSDS 123.0-B-1, "Image metadata").
use Rattle.std.specs.Prelude.{ℕ, ◌==◌, ◌&&◌, nat_lt, Bool, if◌then◌else◌, List, [], ◌∷◌, slice_index, pos}
use Rattle.cube_core.specs.declared.fault.Fault.TheVariants.{FieldRange, Disagree}
use Rattle.cube_core.specs.declared.fault.Field.TheVariants as field
use Rattle.cube_core.specs.declared.fault.Rule.TheVariants as rule
use Rattle.cube_core.specs.declared.order.Order.{Order}
use Rattle.cube_core.specs.declared.order.Order.TheVariants.{Bsq, Bi}
use Rattle.cube_core.specs.Steps.{Test, ◌>>◌, refuse_if}
use Rattle.header_bits.specs.declared.layout.Slot.{Slot}
use Rattle.header_bits.specs.declared.layout.Slot.TheVariants.{Reserved, Plain, Modulo}
use Rattle.header_bits.specs.declared.image_part.ImagePart.{ImagePart}
use Rattle.header_bits.specs.Parts.{Part, reserved_test}

abbrev pub image_fields : List Slot
image_fields =
    Plain 8 0  -- 0 user-defined data
    ∷ Modulo 16  -- 1 columns
    ∷ Modulo 16  -- 2 rows
    ∷ Modulo 16  -- 3 bands
    ∷ Plain 1 0  -- 4 signed samples
    ∷ Reserved 2  -- 5
    ∷ Modulo 4  -- 6 bits of a sample
    ∷ Plain 1 0  -- 7 order: 1 is band sequential
    ∷ Modulo 16  -- 8 depth of interleaving
    ∷ Reserved 2  -- 9
    ∷ Modulo 3  -- 10 bytes of an output word
    ∷ Plain 1 0  -- 11 coder: 1 is block-adaptive
    ∷ Reserved 10  -- 12
    ∷ []

-- the refusals, in order
abbrev pub image_tests : List ℕ → Test
image_tests v =
    reserved_test 57 2 (slice_index v 5)
    >> refuse_if (slice_index v 6 == 1) (FieldRange field.DynamicRange (pos 1))
    >> refuse_if ((slice_index v 7 == 0) && nat_lt (slice_index v 3) (slice_index v 8)) (Disagree rule.DepthOverBands)
    >> reserved_test 80 2 (slice_index v 9)
    >> reserved_test 86 10 (slice_index v 12)

-- the contents that the numbers stand for; under band sequential order the depth's bits are ignored
abbrev pub image_contents : List ℕ → ImagePart
image_contents v = record {
  user = slice_index v 0;
  shape = record { columns = slice_index v 1; rows = slice_index v 2; bands = slice_index v 3 };
  kind = record { signed = slice_index v 4 == 1; bits = slice_index v 6 };
  order = if slice_index v 7 == 0 then Bi (slice_index v 8) else Bsq;
  word = slice_index v 10;
  block = slice_index v 11 == 1;
}

unfoldable pub image : Part ImagePart
image = record { fields = image_fields; tests = image_tests; contents = image_contents }

abbrev pub flag : Bool → ℕ
flag b = if b then 1 else 0

abbrev pub order_flag : Order → ℕ
order_flag Bsq = 1
order_flag (Bi depth) = 0

-- the number in the slot of the depth; under band sequential order 2^16, whose bits are all zero
abbrev pub depth_number : Order → ℕ
depth_number Bsq = 65536
depth_number (Bi depth) = depth

-- the numbers that are written in the slots
abbrev pub image_numbers : ImagePart → List ℕ
image_numbers i =
    i.user ∷ i.shape.columns ∷ i.shape.rows ∷ i.shape.bands ∷ flag i.kind.signed ∷ 0 ∷ i.kind.bits ∷ order_flag i.order ∷ depth_number i.order ∷ 0 ∷ i.word
    ∷ flag i.block ∷ 0 ∷ []
