-- What C asks for: the parameters that numbers and tables stand for, and why some stand for none.
use Rattle.std.specs.Prelude.{ℕ, ◌≡◌, ◌⊎◌, ◌==◌, nat_le, not, ◌&&◌, ◌||◌, Bool, true, false, ℤ, List, length, if◌then◌else◌, Result, Ok, Err}
use Rattle.cube_core.specs.declared.fault.Fault.{Fault}
use Rattle.cube_core.specs.declared.fault.Fault.TheVariants.{Disagree, WantOfMemory}
use Rattle.cube_core.specs.declared.fault.Rule.TheVariants as rule
use Rattle.cube_core.specs.declared.layout.Layout.{Layout}
use Rattle.cube_core.specs.declared.layout.RawOrder.{RawOrder}
use Rattle.cube_core.specs.declared.layout.RawOrder.TheVariants as raw
use Rattle.cube_core.specs.declared.order.Order.{Order}
use Rattle.cube_core.specs.declared.order.Order.TheVariants.{Bsq, Bi}
use Rattle.cube_core.specs.Shape.{Sizes, sizes_or_fault}
use Rattle.cube_core.specs.Kind.{SampleKind, kind_or_fault}
use Rattle.header_bits.specs.declared.params.Params.{Params}
use Rattle.header_bits.specs.declared.params.WeightStart.{WeightStart}
use Rattle.header_bits.specs.declared.params.WeightStart.TheVariants.{Usual, Table}
use Rattle.header_bits.specs.declared.params.Coder.{Coder}
use Rattle.header_bits.specs.declared.params.Coder.TheVariants.{Sample, Block}
use Rattle.header_bits.specs.declared.params.CountStart.{CountStart}
use Rattle.header_bits.specs.declared.params.CountStart.TheVariants.{Constant, Each}
use Rattle.header_bits.specs.Lawful.{IsLawful, params_fault}
use Rattle.ccsds123.specs.declared.records.ParamsRecord.{ParamsRecord}
use Rattle.ccsds123.specs.declared.records.LayoutRecord.{LayoutRecord}
use Rattle.ccsds123.specs.declared.refusal.Refusal.{Refusal}
use Rattle.ccsds123.specs.declared.refusal.Refusal.TheVariants as refusal
use Rattle.ccsds123.specs.declared.refusal.Member.{Member}
use Rattle.ccsds123.specs.declared.refusal.Member.TheVariants as member

-- a test of what C gives passes, or it refuses
abbrev pub Ask : Type 0
Ask = Result (Unit {0}) Refusal

-- one test, and then another
infixr 10 ◌and◌
abbrev pub ◌and◌ : Ask → Ask → Ask
(Ok x) and next = next
(Err e) and next = Err e

abbrev pub unless : Bool → Refusal → Ask
unless passes refusal = if passes then Ok tt else Err refusal

-- a test of the coder
abbrev pub by_coder : {A : Type 0} → Result A Fault → Ask
by_coder (Ok x) = Ok tt
by_coder (Err fault) = Err (refusal.Coder fault)

-- a flag is set where its number isn't 0
abbrev pub is_set : ℕ → Bool
is_set flag = not (flag == 0)

abbrev pub shape_of : ParamsRecord → Sizes
shape_of r = record { columns = r.columns; rows = r.rows; bands = r.bands }

abbrev pub kind_of : ParamsRecord → SampleKind
kind_of r = record { signed = is_set r.is_signed; bits = r.bits }

abbrev pub order_by : ℕ → ℕ → Order
order_by order depth = if order == 0 then Bsq else Bi depth

abbrev pub start_by : Bool → ℕ → List ℤ → WeightStart
start_by false q values = Usual
start_by true q values = Table q values

abbrev pub count_by : Bool → ℕ → List ℕ → CountStart
count_by false k values = Constant k
count_by true k values = Each values

-- the coder is the sample-adaptive one, with or without a table; or the block-adaptive one
abbrev pub coder_of : ParamsRecord → List ℕ → Coder
coder_of r accumulators =
    if r.coder == 0 then Sample r.umax r.gamma_star r.gamma_zero (count_by (is_set r.accumulator_table) r.k accumulators)
    else Block r.block (is_set r.restricted) r.reference

-- the parameters that numbers and tables stand for
abbrev pub params_of : ParamsRecord → List ℤ → List ℕ → Params
params_of r weights accumulators = record {
  shape = shape_of r;
  kind = kind_of r;
  order = order_by r.order r.depth;
  user = r.user;
  word = r.word;
  previous = r.previous;
  reduced = is_set r.reduced;
  column = is_set r.column_sums;
  register = r.register_bits;
  omega = r.omega;
  interval_log = r.interval_log;
  vmin = r.vmin;
  vmax = r.vmax;
  start = start_by (is_set r.weight_table) r.weight_bits weights;
  coder = coder_of r accumulators;
}

abbrev pub size_test : ParamsRecord → Ask
size_test r = unless (r.size == 116) (refusal.StructSize 116 r.size)

-- a member is one of its constants, which are 0 to a greatest one
abbrev pub choice_test : Member → ℕ → ℕ → Ask
choice_test member most value = unless (nat_le value most) (refusal.Choice member value)

-- the struct is known, each choice is one, and sizes and bits are in range
unfoldable pub shape_test : ParamsRecord → Ask
shape_test r =
    size_test r and choice_test member.Order 1 r.order and choice_test member.Coder 1 r.coder
    and by_coder (sizes_or_fault (shape_of r)) and by_coder (kind_or_fault (kind_of r))

-- the struct is known, and sizes are in range
unfoldable pub raw_shape_test : ParamsRecord → Ask
raw_shape_test r = size_test r and by_coder (sizes_or_fault (shape_of r))

-- there are no entries of a table that isn't asked for
abbrev pub weights_test : ParamsRecord → List ℤ → Ask
weights_test r weights = unless (is_set r.weight_table || length weights == 0) (refusal.Coder (Disagree rule.DefaultWithTable))

abbrev pub has_accumulators : ParamsRecord → Bool
has_accumulators r = r.coder == 0 && is_set r.accumulator_table

abbrev pub accumulators_test : ParamsRecord → List ℕ → Ask
accumulators_test r accumulators =
    unless (has_accumulators r || length accumulators == 0) (refusal.Coder (Disagree rule.AccumulatorTableLength))

-- all tests of parameters, in their order
unfoldable pub params_test : ParamsRecord → List ℤ → List ℕ → Ask
params_test r weights accumulators =
    shape_test r and weights_test r weights and accumulators_test r accumulators
    and by_coder (params_fault (params_of r weights accumulators))

abbrev pub raw_order_by : ℕ → RawOrder
raw_order_by interleave = if interleave == 0 then raw.Bsq else if interleave == 1 then raw.Bil else raw.Bip

-- the layout that numbers stand for
abbrev pub layout_of : LayoutRecord → Layout
layout_of l = record { order = raw_order_by l.interleave; bytes = l.bytes; little = is_set l.little }

unfoldable pub layout_test : LayoutRecord → Ask
layout_test l =
    choice_test member.Interleave 2 l.interleave and unless (l.bytes == 1 || l.bytes == 2) (refusal.Choice member.Bytes l.bytes)

-- raw bytes bring the rows that the order codes: bands are interleaved in both, or come one after another in both
unfoldable pub together_test : ParamsRecord → LayoutRecord → Ask
together_test r l =
    unless (not (r.order == 0) || l.interleave == 0) (refusal.Choice member.Order r.order)
    and unless (r.order == 0 || not (l.interleave == 0)) (refusal.Choice member.Interleave l.interleave)

-- what asking for parameters gives: lawful ones, where all tests pass; or the first refusal, or no memory for a table
unfoldable pub AsksParams : ParamsRecord → List ℤ → List ℕ → Result Params Refusal → Type 0
AsksParams r weights accumulators (Ok p) = (params_test r weights accumulators ≡ Ok tt) × IsLawful p × (p ≡ params_of r weights accumulators)
AsksParams r weights accumulators (Err e) = (params_test r weights accumulators ≡ Err e) ⊎ (e ≡ refusal.Coder WantOfMemory)
