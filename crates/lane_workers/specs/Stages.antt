-- A worker as the thread that takes its numbers sees it.
use Rattle.std.specs.Prelude.{ℕ, List, Option}

-- the worker's feed and gate, its numbers that were passed on, and, once its lane is settled, those that are left
pub record StageState (F G : Type 0) : Type 0 where
  pub feed : F
  pub gate : G
  pub handed : List ℕ
  pub left : Option (List ℕ)
