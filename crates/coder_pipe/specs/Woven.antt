-- The weaver: the residuals that it has taken, and the predictor that owns the next one.
use Rattle.std.specs.Prelude.{ℕ, ◌≡◌, ◌+◌, ◌<◌, List, ◌++◌, length, drop, slice_get}
use Rattle.cube_core.specs.declared.order.Order.{Order}
use Rattle.cube_core.specs.Shape.{Sizes}
use Rattle.cube_core.specs.Order.{IsOrder, places}
use Rattle.header_bits.specs.declared.params.Params.{Params}
use Rattle.file_encoding.specs.Ends.{FileEncoderState, HasCoded}

-- the file encoder, and the predictor of each band
pub record WeaverState : Type 0 where
  pub end : FileEncoderState
  pub deal : List ℕ

-- the places left are the last ones of the encoding order, and each band is assigned to a predictor
pub record IsAlong (s : Sizes) (o : Order) (w : WeaverState) : Type 0 where
  pub order : IsOrder s o
  pub whole : length w.deal ≡ s.bands
  pub gone : ℕ
  pub left : w.end.left ≡ drop gone (places s o)

-- the weaver for parameters and a deal has taken the residuals, in encoding order
pub record HasWoven (p : Params) (deal : List ℕ) (w : WeaverState) (numbers : List ℕ) : Type 0 where
  pub coded : HasCoded p w.end numbers
  pub dealt : w.deal ≡ deal

-- whichever residuals it had taken, it has taken those of the list after them
abbrev pub WeavesAll : WeaverState → WeaverState → List ℕ → Type 0
WeavesAll old new list = (p : Params) (deal numbers : List ℕ) → HasWoven p deal old numbers → HasWoven p deal new (numbers ++ list)

-- `count` places from place n on have one owner
abbrev pub AreOfOne : List ℕ → ℕ → ℕ → Type 0
AreOfOne owners n count = (i : ℕ) → i < count → slice_get owners (n + i) ≡ slice_get owners n

-- the owners of the places from place n on begin with this list
abbrev pub AreOwnersFrom : List ℕ → ℕ → List ℕ → Type 0
AreOwnersFrom owners n some = (i : ℕ) → i < length some → slice_get owners (n + i) ≡ slice_get some i
