-- The tables that a header may have: initial weights, and an accumulator initialization constant for each band.
use Rattle.std.specs.Prelude.{ℕ, zero, suc, ◌+◌, ◌-◌, ◌*◌, ◌%◌, ◌^◌, nat_lt, min, Bool, true, false, if◌then◌else◌, List, [], ◌∷◌, ◌++◌, length, map, take}
use Rattle.std.specs.Prelude.{replicate, slice_index, ℤ, pos, negsuc, ◌-ℤ◌}
use Rattle.cube_core.specs.declared.fault.Fault.TheVariants.{Disagree}
use Rattle.cube_core.specs.declared.fault.Rule.TheVariants as rule
use Rattle.cube_core.specs.Steps.{Test, ◌>>◌, refuse_if}
use Rattle.header_bits.specs.declared.layout.Slot.{Slot}
use Rattle.header_bits.specs.declared.layout.Slot.TheVariants.{Reserved, Plain}
use Rattle.header_bits.specs.declared.image_part.ImagePart.{ImagePart}
use Rattle.header_bits.specs.declared.predictor_part.PredictorPart.{PredictorPart}
use Rattle.header_bits.specs.declared.coder_part.CoderPart.{CoderPart}
use Rattle.header_bits.specs.declared.coder_part.CoderPart.TheVariants.{Sample, Block}
use Rattle.header_bits.specs.Layout.{spelled}
use Rattle.header_bits.specs.Parts.{Part, fine, reserved_test}

-- the number of weights of the first bands together: for each band one for each previous band and, in full mode, three directional ones
unfoldable pub weight_count : ℕ → Bool → ℕ → ℕ
weight_count previous reduced zero = 0
weight_count previous reduced (suc z) = weight_count previous reduced z + (min z previous + (if reduced then 0 else 3))

-- the number of zeros that fill `bits` bits up to a whole byte
abbrev pub fill_of : ℕ → ℕ
fill_of bits = (8 - bits % 8) % 8

-- `count` numbers of `bits` bits each
abbrev pub number_fields : ℕ → ℕ → List Slot
number_fields count bits = replicate count (Plain bits 0)

abbrev pub numbers_text : ℕ → List ℕ → List Bool
numbers_text bits v = spelled (number_fields (length v) bits) v

-- the numbers of a table, and its fill bits
abbrev pub table_fields : ℕ → ℕ → List Slot
table_fields count bits = number_fields count bits ++ Reserved (fill_of (count * bits)) ∷ []

-- fill bits are zero
abbrev pub fill_test : ℕ → ℕ → ℕ → List ℕ → Test
fill_test at count bits v = reserved_test (at + count * bits) (fill_of (count * bits)) (slice_index v count)

-- the number that a code of `bits` bits in two's complement stands for
abbrev pub signed_of : ℕ → ℕ → ℤ
signed_of bits code = if nat_lt code (2 ^ (bits - 1)) then pos code else pos code -ℤ pos (2 ^ bits)

abbrev pub signed_code : ℕ → ℤ → ℕ
signed_code bits (pos n) = n
signed_code bits (negsuc n) = 2 ^ bits - (n + 1)

-- ---- the weight table, if the predictor part announces it

abbrev pub weights_by : Bool → ℕ → ℕ → Part (List ℤ)
weights_by false count bits = record { fields = []; tests = λ _. fine; contents = λ _. [] }
weights_by true count bits = record {
  fields = table_fields count bits;
  tests = fill_test 136 count bits;
  contents = λ v. map (signed_of bits) (take count v);
}

unfoldable pub weights : ImagePart → PredictorPart → Part (List ℤ)
weights i p = weights_by p.custom (weight_count p.previous p.reduced i.shape.bands) p.resolution

-- ---- the accumulator table, if the coder part announces it

unfoldable pub some_above : ℕ → List ℕ → Bool
some_above most [] = false
some_above most (v ∷ vs) = if nat_lt most v then true else some_above most vs

abbrev pub constants_by : Bool → ℕ → ImagePart → Part (List ℕ)
constants_by false at i = record { fields = []; tests = λ _. fine; contents = λ _. [] }
constants_by true at i = record {
  fields = table_fields i.shape.bands 4;
  tests = λ v. refuse_if (some_above (i.kind.bits - 2) (take i.shape.bands v)) (Disagree rule.AccumulatorEntry) >> fill_test at i.shape.bands 4 v;
  contents = take i.shape.bands;
}

abbrev pub has_constants : CoderPart → Bool
has_constants (Sample umax gamma_star gamma_zero constant table) = table
has_constants (Block size restricted reference) = false

unfoldable pub constants : ℕ → ImagePart → CoderPart → Part (List ℕ)
constants at i c = constants_by (has_constants c) at i
