-- Numbers that are sent in runs.
use Rattle.std.specs.Prelude.{ℕ, ◌-◌, Bool, List, length, take}
use Rattle.band_rings.specs.Lane.{LaneName}

-- the first numbers of a list, without as many at its end as `last` has
abbrev pub before : List ℕ → List ℕ → List ℕ
before numbers last = take (length numbers - length last) numbers

-- a sender of runs: its lane, its predictor, its gate, all numbers that it took, whether it takes more, and whether the gate has stopped it
pub record RunSending (G : Type 0) : Type 0 where
  pub lane : LaneName
  pub predictor : ℕ
  pub gate : G
  pub taken : List ℕ
  pub ready : Bool
  pub stopped : Bool
