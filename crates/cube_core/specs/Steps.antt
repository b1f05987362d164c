-- Steps that may be refused, one after another: the first refusal decides.
use Rattle.std.specs.Prelude.{Bool, if◌then◌else◌, Option, Some, None, Result, Ok, Err}
use Rattle.cube_core.specs.declared.fault.Fault.{Fault}

-- a test: it passes, or refuses with a fault
abbrev pub Test : Type 0
Test = Result (Unit {0}) Fault

-- one step, then another with the value of the first
infixl 10 ◌>>=◌
abbrev pub ◌>>=◌ : {A B : Type 0} → Result A Fault → (A → Result B Fault) → Result B Fault
(Ok x) >>= f = f x
(Err e) >>= f = Err e

-- one test, then a step
infixr 10 ◌>>◌
abbrev pub ◌>>◌ : {A : Type 0} → Test → Result A Fault → Result A Fault
(Ok x) >> next = next
(Err e) >> next = Err e

abbrev pub refuse_if : Bool → Fault → Test
refuse_if b fault = if b then Err fault else Ok tt

-- the fault of a refusal, if it is one
abbrev pub fault_of : {X : Type 0} → Result X Fault → Option Fault
fault_of (Ok x) = None
fault_of (Err fault) = Some fault
