-- Sources over readers, and sinks over writers.
use Rattle.std.specs.Prelude.{ℕ}

-- a source: its reader, and the number of calls that failed
pub record OverReader (R : Type 0) : Type 0 where
  pub reader : R
  pub failures : ℕ

-- a sink: its writer, the number of calls that failed, and the number of those that took nothing of a piece that isn't empty
pub record OverWriter (W : Type 0) : Type 0 where
  pub writer : W
  pub failures : ℕ
  pub stalls : ℕ
