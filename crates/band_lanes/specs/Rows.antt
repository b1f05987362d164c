-- Rows that hold numbers of eight bands, and what they hold of each.
use Rattle.std.specs.Prelude.{ℕ, ◌+◌, ◌*◌, ◌^◌, ◌<◌, ◌≤◌, ℤ, unsigned_abs, List, [], ◌∷◌, map, take, slice_index_or}
use Rattle.std.specs.List.{flat_map}
use Rattle.lanes.specs.Lanes.{lane, held}
use Rattle.band_lanes.specs.declared.pairs.Pairs.{Pairs}
use Rattle.sample_prediction.specs.Arithmetic.{floor_div}
use Rattle.sample_prediction.specs.Prediction.{inner_product}

-- the number of band b in each row
abbrev pub numbers_of : ℕ → List (List ℤ) → List ℤ
numbers_of b rows = map (λ row. lane row b) rows

-- the two numbers of band b in a row of pairs
abbrev pub pair_of : ℕ → List ℤ → List ℤ
pair_of b row = lane row (2 * b) ∷ lane row (2 * b + 1) ∷ []

-- the row of place i in pairs of components
abbrev pub row_at : Pairs → ℕ → List ℤ
row_at q i = slice_index_or q.places i []

-- pairs at no place
abbrev pub no_pairs : Pairs
no_pairs = record { places = [] }

-- the weights of band b, from the first n rows of pairs
unfoldable pub weights_of : ℕ → ℕ → List (List ℤ) → List ℤ
weights_of n b rows = flat_map (pair_of b) (take n rows)

-- the components of band b, from the first n rows of pairs at one place
abbrev pub pairs_of : ℕ → ℕ → List (List ℤ) → List ℤ
pairs_of n b rows = weights_of n b rows

-- the numbers of eight bands in the first n rows of pairs are within a limit in size
abbrev pub AreRowsWithin : ℕ → ℕ → List (List ℤ) → Type 0
AreRowsWithin limit n rows = (c k : ℕ) → c < n → k < 16 → unsigned_abs (lane (slice_index_or rows c []) k) ≤ limit

-- the components of band b at place i, from the first n pairs of components
unfoldable pub components_of : ℕ → ℕ → List Pairs → ℕ → List ℤ
components_of n b pairs i = flat_map (λ (q : Pairs). pair_of b (row_at q i)) (take n pairs)

-- the components of eight bands at place i, from the first n pairs, are below a limit in size
abbrev pub AreBelow : ℕ → ℕ → List Pairs → ℕ → Type 0
AreBelow limit n pairs i = (c k : ℕ) → c < n → k < 16 → unsigned_abs (lane (row_at (slice_index_or pairs c no_pairs) i) k) < limit

-- d̂ of band b at place i, as 16 bits hold it
abbrev pub held_difference : ℕ → ℕ → ℕ → List (List ℤ) → List Pairs → ℕ → ℤ
held_difference n b omega weights pairs i =
    held (floor_div (inner_product (weights_of n b weights) (components_of n b pairs i)) (2 ^ omega))
