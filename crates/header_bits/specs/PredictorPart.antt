-- The predictor part of a header, five bytes (CCSDS 123.0-B-1, "Predictor metadata").
use Rattle.std.specs.Prelude.{ℕ, ◌+◌, ◌-◌, ◌==◌, ◌&&◌, not, nat_lt, List, [], ◌∷◌, slice_index, ℤ, pos, negsuc, ◌-ℤ◌}
use Rattle.cube_core.specs.declared.fault.Fault.TheVariants.{FieldRange, Disagree, TableElsewhere}
use Rattle.cube_core.specs.declared.fault.Field.TheVariants as field
use Rattle.cube_core.specs.declared.fault.Rule.TheVariants as rule
use Rattle.cube_core.specs.Steps.{Test, ◌>>◌, refuse_if}
use Rattle.header_bits.specs.declared.layout.Slot.{Slot}
use Rattle.header_bits.specs.declared.layout.Slot.TheVariants.{Reserved, Plain, Modulo}
use Rattle.header_bits.specs.declared.image_part.ImagePart.{ImagePart}
use Rattle.header_bits.specs.declared.predictor_part.PredictorPart.{PredictorPart}
use Rattle.header_bits.specs.Parts.{Part, reserved_test}
use Rattle.header_bits.specs.ImagePart.{flag}

abbrev pub predictor_fields : List Slot
predictor_fields =
    Reserved 2  -- 0
    ∷ Plain 4 0  -- 1 previous bands
    ∷ Plain 1 0  -- 2 mode: 1 is reduced
    ∷ Reserved 1  -- 3
    ∷ Plain 1 0  -- 4 local sums: 1 is column-oriented
    ∷ Reserved 1  -- 5
    ∷ Modulo 6  -- 6 register size
    ∷ Plain 4 4  -- 7 weight component resolution
    ∷ Plain 4 4  -- 8 logarithm of the weight update interval
    ∷ Plain 4 0  -- 9 least weight update exponent, as its code
    ∷ Plain 4 0  -- 10 greatest weight update exponent, as its code
    ∷ Reserved 1  -- 11
    ∷ Plain 1 0  -- 12 weight start: 1 is custom
    ∷ Plain 1 0  -- 13 weight table in the file
    ∷ Plain 5 0  -- 14 weight resolution of the table
    ∷ []

-- a limit of the weight update scaling exponent is its code less 6
abbrev pub exponent_of : ℕ → ℤ
exponent_of code = pos code -ℤ pos 6

abbrev pub exponent_code : ℤ → ℕ
exponent_code (pos n) = n + 6
exponent_code (negsuc n) = 5 - n

-- the refusals of the weight initialization, in order
abbrev pub start_tests : List ℕ → Test
start_tests v =
    let custom = slice_index v 12 == 1 in
    let table = slice_index v 13 == 1 in
    let resolution = slice_index v 14 in
    refuse_if (not custom && table) (Disagree rule.DefaultWithTable)
    >> refuse_if (custom && not table) TableElsewhere
    >> refuse_if (not custom && nat_lt 0 resolution) (Disagree rule.DefaultWithResolution)
    >> refuse_if (custom && nat_lt resolution 3) (FieldRange field.Resolution (pos resolution))
    >> refuse_if (nat_lt (slice_index v 7 + 3) resolution) (Disagree rule.ResolutionOverOmega)

-- the refusals of the register size and the weight update, in order, then those of the weight initialization
abbrev pub number_tests : ImagePart → List ℕ → Test
number_tests i v =
    refuse_if (nat_lt (slice_index v 6) 32) (FieldRange field.Register (pos (slice_index v 6)))
    >> refuse_if (nat_lt (slice_index v 6) (i.kind.bits + slice_index v 7 + 2)) (Disagree rule.RegisterTooSmall)
    >> refuse_if (nat_lt 11 (slice_index v 8)) (FieldRange field.Interval (pos (slice_index v 8)))
    >> refuse_if (nat_lt (slice_index v 10) (slice_index v 9)) (Disagree rule.ExponentOrder)
    >> reserved_test 128 1 (slice_index v 11)
    >> start_tests v

-- the refusals, in order
abbrev pub predictor_tests : ImagePart → List ℕ → Test
predictor_tests i v =
    reserved_test 96 2 (slice_index v 0)
    >> refuse_if ((slice_index v 2 == 0) && (i.shape.columns == 1)) (Disagree rule.FullOneColumn)
    >> reserved_test 103 1 (slice_index v 3)
    >> refuse_if ((slice_index v 4 == 0) && (i.shape.columns == 1)) (Disagree rule.NeighbourOneColumn)
    >> reserved_test 105 1 (slice_index v 5)
    >> number_tests i v

abbrev pub predictor_contents : List ℕ → PredictorPart
predictor_contents v = record {
  previous = slice_index v 1;
  reduced = slice_index v 2 == 1;
  column = slice_index v 4 == 1;
  register = slice_index v 6;
  omega = slice_index v 7;
  interval_log = slice_index v 8;
  vmin = exponent_of (slice_index v 9);
  vmax = exponent_of (slice_index v 10);
  custom = slice_index v 12 == 1;
  resolution = slice_index v 14;
}

unfoldable pub predictor : ImagePart → Part PredictorPart
predictor i = record { fields = predictor_fields; tests = predictor_tests i; contents = predictor_contents }

-- the numbers that are written in the slots
abbrev pub predictor_numbers : PredictorPart → List ℕ
predictor_numbers p =
    0 ∷ p.previous ∷ flag p.reduced ∷ 0 ∷ flag p.column ∷ 0 ∷ p.register ∷ p.omega ∷ p.interval_log ∷ exponent_code p.vmin ∷ exponent_code p.vmax ∷ 0
    ∷ flag p.custom ∷ flag p.custom ∷ p.resolution ∷ []
