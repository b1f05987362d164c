-- Rows that hold a number of each of four bands, and what they hold of each.
use Rattle.std.specs.Prelude.{ℕ, ℤ, neg_ℤ, int_le, List, [], map, take}
use Rattle.lanes.specs.Lanes.{place}
use Rattle.band_lanes.specs.declared.four.rows.Rows.{Rows}
use Rattle.band_lanes.specs.Rows.{numbers_of}
use Rattle.sample_prediction.specs.Weights.{step, signed_by}

-- the numbers of band b in the first n rows
unfoldable pub column_of : ℕ → ℕ → List (List ℤ) → List ℤ
column_of n b rows = numbers_of b (take n rows)

-- rows of no place
abbrev pub no_rows : Rows
no_rows = record { places = [] }

-- the components of band b at place i, from the first n rows
unfoldable pub row_components : ℕ → ℕ → List Rows → ℕ → List ℤ
row_components n b rows i = map (λ (r : Rows). place r.places i b) (take n rows)

-- the opposite of the step of a component, with an own and a predicted central difference
abbrev pub opposite_step_of : ℤ → ℤ → ℤ → ℤ → ℤ
opposite_step_of exponent own predicted component = neg_ℤ (step exponent (signed_by (int_le own predicted) component))
