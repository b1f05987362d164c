-- Eight rows of eight numbers without a sign, and how they are mixed.
use Rattle.std.specs.Prelude.{ℕ, List, [], ◌∷◌, slice_index_or}
use Rattle.lanes.specs.Lanes.{number}
use Rattle.lanes.specs.declared.square.Square.{Square}

abbrev pub rows_of : Square → List (List ℕ)
rows_of s = s.a ∷ s.b ∷ s.c ∷ s.d ∷ s.e ∷ s.f ∷ s.g ∷ s.h ∷ []

-- number b of row i
abbrev pub at : List (List ℕ) → ℕ → ℕ → ℕ
at rows i b = number (slice_index_or rows i []) b

-- the first four numbers of two rows side by side, and the last four
abbrev pub first_numbers : List ℕ → List ℕ → List ℕ
first_numbers a b = number a 0 ∷ number b 0 ∷ number a 1 ∷ number b 1 ∷ number a 2 ∷ number b 2 ∷ number a 3 ∷ number b 3 ∷ []

abbrev pub last_numbers : List ℕ → List ℕ → List ℕ
last_numbers a b = number a 4 ∷ number b 4 ∷ number a 5 ∷ number b 5 ∷ number a 6 ∷ number b 6 ∷ number a 7 ∷ number b 7 ∷ []

abbrev row : List (List ℕ) → ℕ → List ℕ
row square i = slice_index_or square i []

-- the first four rows mixed with the last four
abbrev pub mixed : List (List ℕ) → List (List ℕ)
mixed square =
    first_numbers (row square 0) (row square 4) ∷ last_numbers (row square 0) (row square 4) ∷ first_numbers (row square 1) (row square 5) ∷ last_numbers (row square 1) (row square 5)
    ∷ first_numbers (row square 2) (row square 6) ∷ last_numbers (row square 2) (row square 6) ∷ first_numbers (row square 3) (row square 7) ∷ last_numbers (row square 3) (row square 7) ∷ []
