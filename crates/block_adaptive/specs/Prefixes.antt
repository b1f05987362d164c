-- What a writer has appended before it takes the last residual.
use Rattle.std.specs.Prelude.{ℕ, ◌≡◌, Bool, List, ◌++◌, length}
use Rattle.block_adaptive.specs.Segments.{block_count}
use Rattle.block_adaptive.specs.Settings.{IsCut}
use Rattle.block_adaptive.specs.Chosen.{chosen_block_body}
use Rattle.block_adaptive.specs.Taken.{WriterState, HasTaken}

-- the bits appended so far are a prefix of the chosen body, whatever residuals follow
abbrev pub TakenIsPrefix : Type 0
TakenIsPrefix =
    (v : WriterState) (taken future : List ℕ) (bits : List Bool) → IsCut v.cut → block_count v.cut.size (length (taken ++ future)) ≡ v.cut.count
    → HasTaken v taken bits
    → (rest : List Bool) × (chosen_block_body v.cut.set v.cut.size v.cut.reference (taken ++ future) ≡ bits ++ rest)
