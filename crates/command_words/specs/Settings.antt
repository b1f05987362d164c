-- The ranges of the settings of a command line.
use Rattle.std.specs.Prelude.{◌≡◌, ◌≢◌, ℕ, ◌≤◌, string_bytes}
use Rattle.cube_core.specs.declared.order.Order.{Order}
use Rattle.cube_core.specs.declared.order.Order.TheVariants.{Bsq, Bi}
use Rattle.cube_core.specs.Shape.{AreSizes, InRange}
use Rattle.cube_core.specs.Kind.{IsKind}
use Rattle.cube_core.specs.Layout.{IsLayout}
use Rattle.header_bits.specs.declared.params.Params.{Params}
use Rattle.header_bits.specs.declared.params.WeightStart.TheVariants.{Usual}
use Rattle.header_bits.specs.declared.params.Coder.{Coder}
use Rattle.header_bits.specs.declared.params.Coder.TheVariants as coder
use Rattle.header_bits.specs.declared.params.CountStart.TheVariants.{Constant}
use Rattle.header_bits.specs.Lawful.{IsExponent, IsBlockSize}
use Rattle.command_words.specs.declared.settings.Settings.{Settings}
use Rattle.command_words.specs.declared.settings.Settings.TheVariants as command

-- a depth of interleaving is 1 to 65,536
abbrev pub IsDepth : Order → Type 0
IsDepth Bsq = Unit {0}
IsDepth (Bi depth) = InRange 1 65536 depth

-- each of a coder's parameters is in its own range, and there is no accumulator table
abbrev pub IsCoderInRange : Coder → Type 0
IsCoderInRange (coder.Sample umax gamma_star gamma_zero start) =
    InRange 8 32 umax × InRange 4 9 gamma_star × InRange 1 8 gamma_zero × (k : ℕ) × (start ≡ Constant k) × (k ≤ 14)
IsCoderInRange (coder.Block size restricted reference) = IsBlockSize size × InRange 1 4096 reference

-- each parameter is in its own range, and there is no weight table
pub record AreParams (p : Params) : Type 0 where
  pub sizes : AreSizes p.shape
  pub kind : IsKind p.kind
  pub depth : IsDepth p.order
  pub user : p.user ≤ 255
  pub word : InRange 1 8 p.word
  pub previous : p.previous ≤ 15
  pub register : InRange 32 64 p.register
  pub omega : InRange 4 19 p.omega
  pub interval : InRange 4 11 p.interval_log
  pub vmin : IsExponent p.vmin
  pub vmax : IsExponent p.vmax
  pub start : p.start ≡ Usual
  pub coder : IsCoderInRange p.coder

-- each setting is in its range, and the two files have different names
abbrev pub AreInRange : Settings → Type 0
AreInRange command.Show = Unit {0}
AreInRange (command.Compress s from to) =
    AreParams s.params × IsLayout s.layout × InRange 0 64 s.predictors × InRange 1 65536 s.slots × (string_bytes from ≢ string_bytes to)
AreInRange (command.Expand l from to) = IsLayout l × (string_bytes from ≢ string_bytes to)
AreInRange command.Inspect = Unit {0}
