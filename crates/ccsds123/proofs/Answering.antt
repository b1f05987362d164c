-- The answer of an export is that of its outcome.
use Rattle.std.proofs.Common.{ℤ, Result}
use Rattle.std.proofs.lemmas.Int.{to_z-of_z}
use mir.Val.{SFits, of_z, to_z}
use mir.Syntax.{w32}
use Rattle.ccsds123.specs.declared.records.FaultRecord.{FaultRecord}
use Rattle.ccsds123.specs.declared.refusal.Refusal.{Refusal}
use Rattle.ccsds123.specs.Told.{IsAnswer, Answers}

pub answered : (Holds : Result (Unit {0}) Refusal → Type 0) (outcome : Result (Unit {0}) Refusal) (code : ℤ) (told : FaultRecord) → SFits w32 code
    → IsAnswer outcome code told → Holds outcome → Answers (to_z w32 (of_z w32 code)) told Holds
unfolding Answers
answered Holds outcome code told fits answer holds = (outcome, rw (to_z-of_z w32 code fits) answer, holds)
