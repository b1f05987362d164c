-- The lines that are printed of a header, one for each field.
use Rattle.std.specs.Prelude.{ℕ, ◌^◌, List, [], ◌∷◌, ◌++◌, Bool, if◌then◌else◌, codes, decimal}
use Rattle.std.specs.Fmt.{signed_decimal}
use Rattle.cube_core.specs.declared.order.Order.{Order}
use Rattle.cube_core.specs.declared.order.Order.TheVariants.{Bsq, Bi}
use Rattle.header_bits.specs.declared.params.Params.{Params}
use Rattle.header_bits.specs.declared.params.WeightStart.{WeightStart}
use Rattle.header_bits.specs.declared.params.WeightStart.TheVariants.{Usual, Table}
use Rattle.header_bits.specs.declared.params.Coder.{Coder}
use Rattle.header_bits.specs.declared.params.Coder.TheVariants.{Sample, Block}
use Rattle.header_bits.specs.declared.params.CountStart.{CountStart}
use Rattle.header_bits.specs.declared.params.CountStart.TheVariants.{Constant, Each}

-- a line: a name, a space, a value, and a newline
unfoldable pub line : List ℕ → List ℕ → List ℕ
line name value = name ++ 32 ∷ value ++ 10 ∷ []

-- one text if `holds`, else another
abbrev pub choice : Bool → List ℕ → List ℕ → List ℕ
choice holds one other = if holds then one else other

-- an order's name, with the depth of an interleaved one
abbrev pub order_text : Order → List ℕ
order_text Bsq = codes "bsq"
order_text (Bi depth) = codes "bi " ++ decimal depth

abbrev pub coder_text : Coder → List ℕ
coder_text (Sample umax gamma_star gamma_zero start) = codes "sample"
coder_text (Block size restricted reference) = codes "block"

-- the weight initialization, with the resolution Q of a table
abbrev pub start_text : WeightStart → List ℕ
start_text Usual = codes "usual"
start_text (Table q values) = codes "table " ++ decimal q

abbrev pub constant_text : CountStart → List ℕ
constant_text (Constant k) = decimal k
constant_text (Each values) = codes "table"

unfoldable pub size_lines : Params → List ℕ
size_lines p =
    line (codes "user") (decimal p.user)
    ++ line (codes "columns") (decimal p.shape.columns)
    ++ line (codes "rows") (decimal p.shape.rows)
    ++ line (codes "bands") (decimal p.shape.bands)

unfoldable pub sample_lines : Params → List ℕ
sample_lines p =
    line (codes "sample") (choice p.kind.signed (codes "signed") (codes "unsigned"))
    ++ line (codes "bits") (decimal p.kind.bits)
    ++ line (codes "order") (order_text p.order)
    ++ line (codes "word") (decimal p.word)
    ++ line (codes "coder") (coder_text p.coder)

unfoldable pub prediction_lines : Params → List ℕ
prediction_lines p =
    line (codes "previous") (decimal p.previous)
    ++ line (codes "mode") (choice p.reduced (codes "reduced") (codes "full"))
    ++ line (codes "sums") (choice p.column (codes "column") (codes "neighbour"))
    ++ line (codes "register") (decimal p.register)
    ++ line (codes "omega") (decimal p.omega)

unfoldable pub weight_lines : Params → List ℕ
weight_lines p =
    line (codes "interval") (decimal (2 ^ p.interval_log))
    ++ line (codes "vmin") (signed_decimal p.vmin)
    ++ line (codes "vmax") (signed_decimal p.vmax)
    ++ line (codes "start") (start_text p.start)

unfoldable pub coder_lines : Coder → List ℕ
coder_lines (Sample umax gamma_star gamma_zero start) =
    line (codes "umax") (decimal umax)
    ++ line (codes "gamma-star") (decimal gamma_star)
    ++ line (codes "gamma-zero") (decimal gamma_zero)
    ++ line (codes "k") (constant_text start)
coder_lines (Block size restricted reference) =
    line (codes "block") (decimal size)
    ++ line (codes "restricted") (choice restricted (codes "yes") (codes "no"))
    ++ line (codes "reference") (decimal reference)

-- the lines of a header of `size` bytes with these parameters: image, predictor, coder, size
unfoldable pub header_lines : Params → ℕ → List ℕ
header_lines p size =
    size_lines p
    ++ sample_lines p
    ++ prediction_lines p
    ++ weight_lines p
    ++ coder_lines p.coder
    ++ line (codes "header") (decimal size)
