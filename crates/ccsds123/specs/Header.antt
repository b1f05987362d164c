-- What C is told of a header: the numbers of its parameters, and its tables.
use Rattle.std.specs.Prelude.{ℕ, ◌≡◌, ◌⊎◌, ◌^◌, nat_le, Bool, if◌then◌else◌, ℤ, pos, List, [], ◌++◌, length, drop, Ok, Err}
use Rattle.cube_core.specs.declared.fault.Fault.{Fault}
use Rattle.cube_core.specs.declared.fault.Fault.TheVariants.{Read}
use Rattle.cube_core.specs.declared.order.Order.{Order}
use Rattle.cube_core.specs.declared.order.Order.TheVariants.{Bsq, Bi}
use Rattle.header_bits.specs.declared.params.Params.{Params}
use Rattle.header_bits.specs.declared.params.WeightStart.{WeightStart}
use Rattle.header_bits.specs.declared.params.WeightStart.TheVariants.{Usual, Table}
use Rattle.header_bits.specs.declared.params.Coder.{Coder}
use Rattle.header_bits.specs.declared.params.Coder.TheVariants.{Sample, Block}
use Rattle.header_bits.specs.declared.params.CountStart.{CountStart}
use Rattle.header_bits.specs.declared.params.CountStart.TheVariants.{Constant, Each}
use Rattle.header_bits.specs.Bits.{bits_of_bytes}
use Rattle.header_bits.specs.Header.{ReadsHeader, is_custom, resolution_of}
use Rattle.ccsds123.specs.declared.records.ParamsRecord.{ParamsRecord}
use Rattle.ccsds123.specs.declared.refusal.Refusal.{Refusal}
use Rattle.ccsds123.specs.declared.refusal.Refusal.TheVariants as refusal
use Rattle.ccsds123.specs.declared.refusal.Room.{Room}
use Rattle.ccsds123.specs.declared.refusal.Room.TheVariants as room
use Rattle.ccsds123.specs.Asked.{Ask, unless, size_test, ◌and◌}

abbrev pub flag_of : Bool → ℕ
flag_of set = if set then 1 else 0

abbrev pub order_number : Order → ℕ
order_number Bsq = 0
order_number (Bi depth) = 1

abbrev pub depth_of : Order → ℕ
depth_of Bsq = 0
depth_of (Bi depth) = depth

abbrev pub weights_of : WeightStart → List ℤ
weights_of Usual = []
weights_of (Table q values) = values

abbrev pub accumulators_in : CountStart → List ℕ
accumulators_in (Constant k) = []
accumulators_in (Each values) = values

abbrev pub accumulators_of : Coder → List ℕ
accumulators_of (Sample umax gamma_star gamma_zero start) = accumulators_in start
accumulators_of (Block size restricted reference) = []

-- no numbers but the record's size
abbrev pub zeros : ParamsRecord
zeros = record {
  size = 116;
  columns = 0;
  rows = 0;
  bands = 0;
  bits = 0;
  is_signed = 0;
  order = 0;
  depth = 0;
  user = 0;
  word = 0;
  previous = 0;
  reduced = 0;
  column_sums = 0;
  register_bits = 0;
  omega = 0;
  interval_log = 0;
  vmin = pos 0;
  vmax = pos 0;
  weight_table = 0;
  weight_bits = 0;
  coder = 0;
  umax = 0;
  gamma_star = 0;
  gamma_zero = 0;
  k = 0;
  accumulator_table = 0;
  block = 0;
  reference = 0;
  restricted = 0;
}

-- the numbers of an image and its predictor
abbrev pub predictor_record : Params → ParamsRecord
predictor_record p = record zeros {
  columns = p.shape.columns;
  rows = p.shape.rows;
  bands = p.shape.bands;
  bits = p.kind.bits;
  is_signed = flag_of p.kind.signed;
  order = order_number p.order;
  depth = depth_of p.order;
  user = p.user;
  word = p.word;
  previous = p.previous;
  reduced = flag_of p.reduced;
  column_sums = flag_of p.column;
  register_bits = p.register;
  omega = p.omega;
  interval_log = p.interval_log;
  vmin = p.vmin;
  vmax = p.vmax;
  weight_table = flag_of (is_custom p.start);
  weight_bits = resolution_of p.start;
}

abbrev pub constant_in : CountStart → ℕ
constant_in (Constant k) = k
constant_in (Each values) = 0

abbrev pub table_in : CountStart → ℕ
table_in (Constant k) = 0
table_in (Each values) = 1

abbrev pub with_coder : ParamsRecord → Coder → ParamsRecord
with_coder r (Sample umax gamma_star gamma_zero start) =
    record r { umax = umax; gamma_star = gamma_star; gamma_zero = gamma_zero; k = constant_in start; accumulator_table = table_in start }
with_coder r (Block size restricted reference) =
    record r { coder = 1; block = size; reference = reference; restricted = flag_of restricted }

-- the numbers of parameters; those that their order or coder doesn't use are 0
unfoldable pub params_record : Params → ParamsRecord
params_record p = with_coder (predictor_record p) p.coder

-- a file has at most 2^60 bytes
abbrev pub length_test : List ℕ → Ask
length_test bytes = unless (nat_le (length bytes) (2 ^ 60)) (refusal.Coder Read)

-- there is room for so many entries
abbrev pub room_test : Room → ℕ → ℕ → Ask
room_test room wanted had = unless (nat_le wanted had) (refusal.Room room wanted had)

-- entries in the front of a room, the rest of which is as it was
abbrev pub fronted : {X : Type 0} → List X → List X → List X
fronted entries old = entries ++ drop (length entries) old

-- the rooms for both tables are large enough
unfoldable pub tables_test : Params → ℕ → ℕ → Ask
tables_test p weights accumulators =
    room_test room.Weights (length (weights_of p.start)) weights and room_test room.Accumulators (length (accumulators_of p.coder)) accumulators

-- what a caller of `ccsds123_read_header` holds, before or after: the record, the tables with their counts, and the header's length
pub record HeaderRooms : Type 0 where
  pub params : ParamsRecord
  pub weights : List ℤ
  pub weight_count : ℕ
  pub accumulators : List ℕ
  pub accumulator_count : ℕ
  pub length : ℕ

-- nothing was written but zeros for the counts and the length
abbrev pub nothing_in : HeaderRooms → HeaderRooms
nothing_in old = record old { weight_count = 0; accumulator_count = 0; length = 0 }

-- parameters and a length were written
abbrev pub header_in : HeaderRooms → Params → ℕ → HeaderRooms
header_in old p size = record {
  params = params_record p;
  weights = fronted (weights_of p.start) old.weights;
  weight_count = length (weights_of p.start);
  accumulators = fronted (accumulators_of p.coder) old.accumulators;
  accumulator_count = length (accumulators_of p.coder);
  length = size;
}

-- struct and length pass their tests
abbrev pub head_test : HeaderRooms → List ℕ → Ask
head_test old bytes = size_test old.params and length_test bytes

-- why no header is read: the struct is unknown, the bytes are too many or begin with none, or a room is too small for its table
abbrev pub IsHeaderFault : HeaderRooms → List ℕ → Refusal → Type 0
IsHeaderFault old bytes e =
    (head_test old bytes ≡ Err e)
    ⊎ ((head_test old bytes ≡ Ok tt) × (((fault : Fault) × (e ≡ refusal.Coder fault) × ReadsHeader (bits_of_bytes bytes) (Err fault))
    ⊎ ((p : Params) × (size : ℕ) × ReadsHeader (bits_of_bytes bytes) (Ok (p, size)) × (tables_test p (length old.weights) (length old.accumulators) ≡ Err e))))

-- reading a header into rooms: its parameters, tables and length; or a refusal, and nothing was written
unfoldable pub ReadsInto : List ℕ → HeaderRooms → HeaderRooms → Ask → Type 0
ReadsInto bytes old new (Ok done) =
    (head_test old bytes ≡ Ok tt) × ((p : Params) × (size : ℕ) × ReadsHeader (bits_of_bytes bytes) (Ok (p, size)) × (new ≡ header_in old p size))
ReadsInto bytes old new (Err e) = IsHeaderFault old bytes e × (new ≡ nothing_in old)
