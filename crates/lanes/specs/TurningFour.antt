-- Four rows of four numbers, and how they are woven.
use Rattle.std.specs.Prelude.{ℕ, ℤ, List, [], ◌∷◌, slice_index_or}
use Rattle.lanes.specs.Lanes.{lane}
use Rattle.lanes.specs.declared.turn_four.FourRows.{FourRows}

abbrev pub four_rows : FourRows → List (List ℤ)
four_rows s = s.a ∷ s.b ∷ s.c ∷ s.d ∷ []

-- the first two numbers of two rows side by side, and the last two
abbrev pub lower_halves : List ℤ → List ℤ → List ℤ
lower_halves a b = lane a 0 ∷ lane b 0 ∷ lane a 1 ∷ lane b 1 ∷ []

abbrev pub upper_halves : List ℤ → List ℤ → List ℤ
upper_halves a b = lane a 2 ∷ lane b 2 ∷ lane a 3 ∷ lane b 3 ∷ []

abbrev row : List (List ℤ) → ℕ → List ℤ
row square i = slice_index_or square i []

-- the first two rows woven with the last two
abbrev pub woven_four : List (List ℤ) → List (List ℤ)
woven_four square =
    lower_halves (row square 0) (row square 2) ∷ upper_halves (row square 0) (row square 2)
    ∷ lower_halves (row square 1) (row square 3) ∷ upper_halves (row square 1) (row square 3) ∷ []
