-- A line that was appended, under its name.
use Rattle.std.proofs.Common.{◌≡◌, ℕ, List, Some, Ok, Err, Result, OnOk, ◌++◌, ap}
use Rattle.command_reports.specs.Lines.{line}

pub shown : (a b : List ℕ) → a ≡ b → Some a ≡ Some b
shown a b e = ap (λ (t : List ℕ). Some t) e

pub named : (name value old new : List ℕ) → new ≡ old ++ line name value → new ≡ old ++ line name value
named name value old new e = e

-- what follows where the last line was appended
pub at_last : {T E : Type 0} (r : Result T E) (P Q : Type 0) → OnOk r P → (P → Q) → OnOk r Q
at_last (Ok x) P Q h turn = turn h
at_last (Err e) P Q h turn = tt
