-- The values of a command's options, as they were found in its words.
use Rattle.std.specs.Prelude.{◌≡◌, ℕ, ℤ, pos, ◌-ℤ◌, ◌⊎◌, List, Bool, true, false, Some, None, codes, string_bytes, String}
use Rattle.std.specs.Str.Parse.{IsNumeral, digits_value, without_leading_plus}
use Rattle.std.specs.declared.alloc.Global.{Global}
use Rattle.clap.specs.Matches.{found_of}
use Rattle.clap.specs.Walk.{Row, Text, first_of, one_of, rows_of}
use Rattle.clap.specs.declared.parser.matches.ArgMatches.{ArgMatches}
use Rattle.cube_core.specs.Shape.{Sizes, InRange}
use Rattle.cube_core.specs.Kind.{SampleKind}
use Rattle.cube_core.specs.declared.order.Order.{Order}
use Rattle.cube_core.specs.declared.order.Order.TheVariants.{Bsq, Bi}
use Rattle.cube_core.specs.declared.layout.Layout.{Layout}
use Rattle.cube_core.specs.declared.layout.RawOrder.{RawOrder}
use Rattle.cube_core.specs.declared.layout.RawOrder.TheVariants as raw
use Rattle.header_bits.specs.declared.params.Params.{Params}
use Rattle.header_bits.specs.declared.params.Coder.{Coder}
use Rattle.header_bits.specs.declared.params.Coder.TheVariants as coder
use Rattle.header_bits.specs.declared.params.CountStart.TheVariants.{Constant}
use Rattle.command_words.specs.Settings.{IsCoderInRange}

-- the words that were found for each option
abbrev pub rows : ArgMatches → List Row
rows m = rows_of (found_of m)

-- the option's word
abbrev pub HasWord : List Row → Text → Text → Type 0
HasWord rows name word = first_of name rows ≡ Some word

-- the option's word is a number in decimal digits, after an optional plus sign
abbrev pub HasNumber : List Row → Text → ℕ → Type 0
HasNumber rows name n = (t : Text) × (one_of name rows ≡ Some t) × IsNumeral 10 (without_leading_plus t) × (digits_value 10 (without_leading_plus t) ≡ n)

-- whether the flag was given
abbrev pub HasFlag : List Row → Text → Bool → Type 0
HasFlag rows name b =
    (one_of name rows ≡ Some (codes "true") → b ≡ true) × (one_of name rows ≡ Some (codes "false") → b ≡ false) × (one_of name rows ≡ None → b ≡ false)

abbrev pub raw_order_word : RawOrder → Text
raw_order_word raw.Bsq = codes "bsq"
raw_order_word raw.Bil = codes "bil"
raw_order_word raw.Bip = codes "bip"

-- the raw layout
pub record IsLayoutOf (rows : List Row) (l : Layout) : Type 0 where
  pub order : HasWord rows (codes "layout") (raw_order_word l.order)
  pub bytes : HasNumber rows (codes "bytes") l.bytes
  pub little : HasFlag rows (codes "little") l.little

-- IN and OUT
abbrev pub AreFilesOf : List Row → String Global → String Global → Type 0
AreFilesOf rows from to = HasWord rows (codes "IN") (string_bytes from) × HasWord rows (codes "OUT") (string_bytes to)

-- the sizes of an image
pub record AreSizesOf (found : List Row) (s : Sizes) : Type 0 where
  pub columns : HasNumber found (codes "columns") s.columns
  pub rows : HasNumber found (codes "rows") s.rows
  pub bands : HasNumber found (codes "bands") s.bands

-- the kind of its samples
pub record IsKindOf (rows : List Row) (k : SampleKind) : Type 0 where
  pub signed : HasFlag rows (codes "signed") k.signed
  pub bits : HasNumber rows (codes "bits") k.bits

-- the encoding order; a depth in its range is given in either order, and is that of the interleaved one
abbrev pub IsOrderOf : List Row → Order → Type 0
IsOrderOf rows Bsq = HasWord rows (codes "order") (codes "bsq") × (depth : ℕ) × HasNumber rows (codes "depth") depth × InRange 1 65536 depth
IsOrderOf rows (Bi depth) = HasWord rows (codes "order") (codes "bi") × HasNumber rows (codes "depth") depth

-- the option's number is an exponent plus 6
abbrev pub HasExponent : List Row → Text → ℤ → Type 0
HasExponent rows name v = (code : ℕ) × HasNumber rows name code × (v ≡ pos code -ℤ pos 6)

-- the options of the sample-adaptive coder
abbrev pub IsSampleOf : List Row → Coder → Type 0
IsSampleOf rows (coder.Sample umax gamma_star gamma_zero start) =
    HasNumber rows (codes "umax") umax × HasNumber rows (codes "gamma-star") gamma_star × HasNumber rows (codes "gamma-zero") gamma_zero
    × (k : ℕ) × HasNumber rows (codes "k") k × (start ≡ Constant k)
IsSampleOf rows (coder.Block size restricted reference) = ⊥

-- the options of the block-adaptive coder
abbrev pub IsBlockOf : List Row → Coder → Type 0
IsBlockOf rows (coder.Sample umax gamma_star gamma_zero start) = ⊥
IsBlockOf rows (coder.Block size restricted reference) =
    HasNumber rows (codes "block") size × HasFlag rows (codes "restricted") restricted × HasNumber rows (codes "reference") reference

-- the options of both coders are in their ranges, and the named coder has its own
pub record IsCoderOf (rows : List Row) (c : Coder) : Type 0 where
  pub sample : (s : Coder) × IsSampleOf rows s × IsCoderInRange s
  pub block : (b : Coder) × IsBlockOf rows b × IsCoderInRange b
  pub named : (HasWord rows (codes "coder") (codes "sample") × IsSampleOf rows c) ⊎ (HasWord rows (codes "coder") (codes "block") × IsBlockOf rows c)

-- each parameter has the value of its option
pub record AreParamsOf (rows : List Row) (p : Params) : Type 0 where
  pub shape : AreSizesOf rows p.shape
  pub kind : IsKindOf rows p.kind
  pub order : IsOrderOf rows p.order
  pub user : HasNumber rows (codes "user") p.user
  pub word : HasNumber rows (codes "word") p.word
  pub previous : HasNumber rows (codes "previous") p.previous
  pub reduced : HasFlag rows (codes "reduced") p.reduced
  pub column : HasFlag rows (codes "column-sums") p.column
  pub register : HasNumber rows (codes "register") p.register
  pub omega : HasNumber rows (codes "omega") p.omega
  pub interval : HasNumber rows (codes "interval-log") p.interval_log
  pub vmin : HasExponent rows (codes "vmin-code") p.vmin
  pub vmax : HasExponent rows (codes "vmax-code") p.vmax
  pub coder : IsCoderOf rows p.coder
