-- The whole header: the image part, the predictor part, a weight table, the coder part and an accumulator table.
use Rattle.std.specs.Prelude.{◌≡◌, ◌⊎◌, ◌||◌, ℕ, ◌+◌, ◌*◌, ◌≤◌, drop, Option, Ok, Err, Bool, true, false, List, ◌∷◌, ◌++◌, [], length, map}
use Rattle.std.specs.Prelude.{Result, ℤ}
use Rattle.cube_core.specs.declared.fault.Fault.{Fault}
use Rattle.cube_core.specs.declared.fault.Fault.TheVariants.{WantOfMemory}
use Rattle.cube_core.specs.Steps.{fault_of}
use Rattle.header_bits.specs.declared.params.Params.{Params}
use Rattle.header_bits.specs.declared.params.WeightStart.{WeightStart}
use Rattle.header_bits.specs.declared.params.WeightStart.TheVariants.{Usual, Table}
use Rattle.header_bits.specs.declared.params.Coder.{Coder}
use Rattle.header_bits.specs.declared.params.Coder.TheVariants as coding
use Rattle.header_bits.specs.declared.params.CountStart.{CountStart}
use Rattle.header_bits.specs.declared.params.CountStart.TheVariants.{Constant, Each}
use Rattle.header_bits.specs.declared.image_part.ImagePart.{ImagePart}
use Rattle.header_bits.specs.declared.predictor_part.PredictorPart.{PredictorPart}
use Rattle.header_bits.specs.declared.coder_part.CoderPart.{CoderPart}
use Rattle.header_bits.specs.declared.coder_part.CoderPart.TheVariants.{Sample, Block}
use Rattle.header_bits.specs.Reading.{Reading}
use Rattle.header_bits.specs.Layout.{total, spelled, values}
use Rattle.header_bits.specs.Parts.{part_at, then_at, as_at, SpellsPart, SpellsThen, SpellsAs}
use Rattle.header_bits.specs.ImagePart.{image, image_fields, image_numbers}
use Rattle.header_bits.specs.PredictorPart.{predictor, predictor_fields, predictor_numbers}
use Rattle.header_bits.specs.CoderPart.{coder, coder_fields, coder_numbers}
use Rattle.header_bits.specs.TableParts.{weight_count, weights, has_constants, constants, table_fields, signed_code}

-- the contents of the parts, one after another
abbrev pub HeaderContents : Type 0
HeaderContents = (((ImagePart × PredictorPart) × List ℤ) × CoderPart) × List ℕ

-- the position of the first bit after the weight table
abbrev pub coder_start : ImagePart → PredictorPart → ℕ
coder_start i p = 136 + total (weights i p).fields

-- the parts, read in order
unfoldable pub parts_at : Reading HeaderContents
parts_at =
    then_at (then_at (then_at (then_at (part_at image) (λ i. part_at (predictor i))) (λ x. part_at (weights x.0 x.1)))
    (λ x. part_at (coder (coder_start x.0.0 x.0.1) x.0.0)))
    (λ x. part_at (constants (coder_start x.0.0.0 x.0.0.1 + 16) x.0.0.0 x.1))

-- the parts, spelt in order
abbrev pub SpellsParts : HeaderContents → List Bool → Type 0
SpellsParts =
    SpellsThen (SpellsThen (SpellsThen (SpellsThen (SpellsPart image) (λ i. SpellsPart (predictor i))) (λ x. SpellsPart (weights x.0 x.1)))
    (λ x. SpellsPart (coder (coder_start x.0.0 x.0.1) x.0.0)))
    (λ x. SpellsPart (constants (coder_start x.0.0.0 x.0.0.1 + 16) x.0.0.0 x.1))

-- the weight initialization: custom with resolution q and these entries, or the default
abbrev pub start_by : Bool → ℕ → List ℤ → WeightStart
start_by false q values = Usual
start_by true q values = Table q values

-- the accumulator initialization: a table of constants, or one constant
abbrev pub count_by : Bool → ℕ → List ℕ → CountStart
count_by false constant values = Constant constant
count_by true constant values = Each values

-- the coder of a coder part, with the constants of the accumulator table, if there is one
abbrev pub coder_by_part : CoderPart → List ℕ → Coder
coder_by_part (Sample umax gamma_star gamma_zero constant table) values = coding.Sample umax gamma_star gamma_zero (count_by table constant values)
coder_by_part (Block size restricted reference) values = coding.Block size restricted reference

-- the contents of all parts; a table, if the header has it, begins at `at_weights` or `at_constants`
abbrev pub header_contents : ImagePart → PredictorPart → List Bool → CoderPart → List Bool → HeaderContents
header_contents i p at_weights c at_constants =
    let ws = weights i p in
    let ks = constants (coder_start i p + 16) i c in
    ((((i, p), ws.contents (values ws.fields at_weights)), c), ks.contents (values ks.fields at_constants))

-- the bits hold the tables that the parts announce; P is at most 15, and a weight of a table has 1 to 22 bits
pub record AreThere (i : ImagePart) (p : PredictorPart) (at_weights : List Bool) (c : CoderPart) (at_constants : List Bool) : Type 0 where
  pub previous : p.previous ≤ 15
  pub most : p.resolution ≤ 22
  pub least : p.custom ≡ true → 1 ≤ p.resolution
  pub weights : p.custom ≡ true → weight_count p.previous p.reduced i.shape.bands * p.resolution ≤ length at_weights
  pub constants : has_constants c ≡ true → i.shape.bands * 4 ≤ length at_constants

-- the parameters that the contents of the parts stand for
abbrev pub params_of : HeaderContents → Params
params_of s =
    let i = s.0.0.0.0 in
    let p = s.0.0.0.1 in
    record {
      shape = i.shape;
      kind = i.kind;
      order = i.order;
      user = i.user;
      word = i.word;
      previous = p.previous;
      reduced = p.reduced;
      column = p.column;
      register = p.register;
      omega = p.omega;
      interval_log = p.interval_log;
      vmin = p.vmin;
      vmax = p.vmax;
      start = start_by p.custom p.resolution s.0.0.1;
      coder = coder_by_part s.0.1 s.1;
    }

-- reading a header: its parameters, or the first refusal, part by part and in each in the order of its fields
unfoldable pub header_at : Reading Params
header_at = as_at params_of parts_at

-- the bits are a header of these parameters
abbrev pub SpellsHeader : Params → List Bool → Type 0
SpellsHeader p bits = SpellsAs params_of SpellsParts p bits

-- ---- the spelling that a coder chooses

abbrev pub is_block : Coder → Bool
is_block (coding.Sample umax gamma_star gamma_zero start) = false
is_block (coding.Block size restricted reference) = true

abbrev pub is_custom : WeightStart → Bool
is_custom Usual = false
is_custom (Table q values) = true

abbrev pub resolution_of : WeightStart → ℕ
resolution_of Usual = 0
resolution_of (Table q values) = q

abbrev pub image_part_of : Params → ImagePart
image_part_of p = record { user = p.user; shape = p.shape; kind = p.kind; order = p.order; word = p.word; block = is_block p.coder }

abbrev pub predictor_part_of : Params → PredictorPart
predictor_part_of p = record {
  previous = p.previous;
  reduced = p.reduced;
  column = p.column;
  register = p.register;
  omega = p.omega;
  interval_log = p.interval_log;
  vmin = p.vmin;
  vmax = p.vmax;
  custom = is_custom p.start;
  resolution = resolution_of p.start;
}

-- the number in the field of the accumulator initialization constant: K, or 15 if there is a table
abbrev pub constant_field : CountStart → ℕ
constant_field (Constant constant) = constant
constant_field (Each values) = 15

abbrev pub is_each : CountStart → Bool
is_each (Constant constant) = false
is_each (Each values) = true

abbrev pub coder_part_of : Coder → CoderPart
coder_part_of (coding.Sample umax gamma_star gamma_zero start) = Sample umax gamma_star gamma_zero (constant_field start) (is_each start)
coder_part_of (coding.Block size restricted reference) = Block size restricted reference

abbrev pub weight_bits : WeightStart → List Bool
weight_bits Usual = []
weight_bits (Table q values) = spelled (table_fields (length values) q) (map (signed_code q) values ++ 0 ∷ [])

abbrev pub each_bits : CountStart → List Bool
each_bits (Constant constant) = []
each_bits (Each values) = spelled (table_fields (length values) 4) (values ++ 0 ∷ [])

abbrev pub constant_bits : Coder → List Bool
constant_bits (coding.Sample umax gamma_star gamma_zero start) = each_bits start
constant_bits (coding.Block size restricted reference) = []

-- the header that is written; under band sequential order the field of the depth is 0
unfoldable pub header_of : Params → List Bool
header_of p =
    spelled image_fields (image_numbers (image_part_of p)) ++ spelled predictor_fields (predictor_numbers (predictor_part_of p)) ++ weight_bits p.start
    ++ spelled (coder_fields (coder_part_of p.coder)) (coder_numbers (coder_part_of p.coder)) ++ constant_bits p.coder

abbrev pub has_each : Coder → Bool
has_each (coding.Sample umax gamma_star gamma_zero start) = is_each start
has_each (coding.Block size restricted reference) = false

-- whether the parameters have a table of weights or of constants
abbrev pub has_table : Params → Bool
has_table p = is_custom p.start || has_each p.coder

-- the bits begin with a header that has a table
abbrev pub BeginsWithTable : List Bool → Type 0
BeginsWithTable bits = (x : Params × List Bool) × (header_at bits ≡ Ok x) × (has_table x.0 ≡ true)

-- why no header is read: the first refusal; or `WantOfMemory`, if the bits begin with a header that has a table
abbrev pub RefusesHeader : List Bool → Fault → Type 0
RefusesHeader bits e = (header_at bits ≡ Err e) ⊎ ((e ≡ WantOfMemory) × BeginsWithTable bits)

-- the result of reading a header: its parameters and its length in bytes, or why none is read
abbrev pub ReadsHeader : List Bool → Result (Params × ℕ) Fault → Type 0
ReadsHeader bits (Ok x) = header_at bits ≡ Ok (x.0, drop (8 * x.1) bits)
ReadsHeader bits (Err e) = RefusesHeader bits e

-- the result of taking a header off the bits, after which `left` is left: its parameters, or why none is taken
abbrev pub TakesHeader : List Bool → Result Params Fault → List Bool → Type 0
TakesHeader bits (Ok p) left = header_at bits ≡ Ok (p, left)
TakesHeader bits (Err e) left = RefusesHeader bits e

-- the bits don't begin with a header
abbrev pub BeginsNoHeader : List Bool → Type 0
BeginsNoHeader bits = (p : Params) (h rest : List Bool) → SpellsHeader p h → bits ≡ h ++ rest → ⊥

-- the first refusal of a header, or none
unfoldable pub header_fault : List Bool → Option Fault
header_fault bits = fault_of (header_at bits)
