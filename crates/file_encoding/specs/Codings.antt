-- The file encoder takes a list of residuals.
use Rattle.std.specs.Prelude.{ℕ, Bool, List, IsTrue}
use Rattle.file_encoding.specs.Ends.{FileEncoderState, CodesAll}

-- it has coded the whole list, or memory ran out
abbrev pub Takes : FileEncoderState → FileEncoderState → Bool → List ℕ → Type 0
Takes old new all list = IsTrue all → CodesAll old new list
