-- Raw bytes that bring the rows which an order codes.
use Rattle.std.specs.Prelude.{ℕ}
use Rattle.cube_core.specs.declared.layout.RawOrder.{RawOrder}
use Rattle.cube_core.specs.declared.layout.RawOrder.TheVariants as raw
use Rattle.cube_core.specs.declared.order.Order.{Order}
use Rattle.cube_core.specs.declared.order.Order.TheVariants.{Bsq, Bi}

-- rows of all bands at once in both, or rows of one band after another in both
abbrev pub GoTogether : RawOrder → Order → Type 0
GoTogether raw.Bsq Bsq = Unit {0}
GoTogether raw.Bsq (Bi depth) = ⊥
GoTogether raw.Bil Bsq = ⊥
GoTogether raw.Bil (Bi depth) = Unit {0}
GoTogether raw.Bip Bsq = ⊥
GoTogether raw.Bip (Bi depth) = Unit {0}
