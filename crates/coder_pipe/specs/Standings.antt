-- What the weaver has taken of the residuals that the workers handed on.
use Rattle.std.specs.Prelude.{◌≡◌, ℕ, ◌<◌, List, [], ◌++◌, map, length, slice_index_or}
use Rattle.header_bits.specs.declared.params.Params.{Params}
use Rattle.lane_workers.specs.Stages.{StageState}
use Rattle.file_encoding.specs.Own.{owners, part}
use Rattle.coder_pipe.specs.Woven.{WeaverState, HasWoven}

module _ {F G : Type 0} where
  abbrev pub feeds_of : List (StageState F G) → List F
  feeds_of ss = map (λ s. s.feed) ss

  abbrev pub gates_of : List (StageState F G) → List G
  gates_of ss = map (λ s. s.gate) ss

  abbrev pub handed_of : List (StageState F G) → List (List ℕ)
  handed_of ss = map (λ s. s.handed) ss

-- the weaver has taken `count` residuals, and of each predictor just those that it handed on
pub record IsWoven (p : Params) (deal : List ℕ) (w : WeaverState) (handed : List (List ℕ)) (count : ℕ) : Type 0 where
  pub numbers : List ℕ
  pub woven : HasWoven p deal w numbers
  pub long : length numbers ≡ count
  pub parts : (q : ℕ) → q < length handed → slice_index_or handed q [] ≡ part q (owners deal p) numbers

-- the weaver has taken `count` residuals; those ahead were handed on after them, each by the predictor that owns its place
pub record IsAhead (p : Params) (deal : List ℕ) (w : WeaverState) (handed : List (List ℕ)) (count : ℕ) (ahead : List ℕ) : Type 0 where
  pub numbers : List ℕ
  pub woven : HasWoven p deal w numbers
  pub long : length numbers ≡ count
  pub parts : (q : ℕ) → q < length handed → slice_index_or handed q [] ≡ part q (owners deal p) (numbers ++ ahead)
