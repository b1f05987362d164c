-- Eight rows of eight numbers, and how they are woven.
use Rattle.std.specs.Prelude.{ℕ, ℤ, List, [], ◌∷◌, slice_index_or}
use Rattle.lanes.specs.Lanes.{lane}
use Rattle.lanes.specs.declared.turn.Square.{Square}

abbrev pub rows_of : Square → List (List ℤ)
rows_of s = s.a ∷ s.b ∷ s.c ∷ s.d ∷ s.e ∷ s.f ∷ s.g ∷ s.h ∷ []

-- the first four numbers of two rows side by side, and the last four
abbrev pub first_halves : List ℤ → List ℤ → List ℤ
first_halves a b = lane a 0 ∷ lane b 0 ∷ lane a 1 ∷ lane b 1 ∷ lane a 2 ∷ lane b 2 ∷ lane a 3 ∷ lane b 3 ∷ []

abbrev pub last_halves : List ℤ → List ℤ → List ℤ
last_halves a b = lane a 4 ∷ lane b 4 ∷ lane a 5 ∷ lane b 5 ∷ lane a 6 ∷ lane b 6 ∷ lane a 7 ∷ lane b 7 ∷ []

abbrev row : List (List ℤ) → ℕ → List ℤ
row square i = slice_index_or square i []

-- the first four rows woven with the last four
abbrev pub woven : List (List ℤ) → List (List ℤ)
woven square =
    first_halves (row square 0) (row square 4) ∷ last_halves (row square 0) (row square 4) ∷ first_halves (row square 1) (row square 5) ∷ last_halves (row square 1) (row square 5)
    ∷ first_halves (row square 2) (row square 6) ∷ last_halves (row square 2) (row square 6) ∷ first_halves (row square 3) (row square 7) ∷ last_halves (row square 3) (row square 7) ∷ []
