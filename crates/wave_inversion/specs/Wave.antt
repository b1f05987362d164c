-- A wavefront of eight bands: what its lanes hold.
use Rattle.std.specs.Prelude.{ℕ, ◌+◌, ◌-◌, ◌<◌, ◌≤◌, nat_lt, ℤ, pos, ◌+ℤ◌, ◌*ℤ◌, ◌≤ℤ◌, unsigned_abs, Bool, List, [], slice_index_or, if◌then◌else◌}
use Rattle.lanes.specs.Lanes.{lane, place}
use Rattle.wave_inversion.specs.declared.room.WeightRows.{WeightRows}
use Rattle.wave_inversion.specs.declared.lower.LowerRows.{LowerRows}
use Rattle.wave_inversion.specs.declared.long.room.LongWeightRows.{LongWeightRows}
use Rattle.wave_inversion.specs.declared.long.lower.LongLowerRows.{LongLowerRows}

-- each of eight lanes holds a number from 0 to a limit
abbrev pub AreOffsets : ℤ → List ℤ → Type 0
AreOffsets limit row = (b : ℕ) → b < 8 → (pos 0 ≤ℤ lane row b) × (lane row b ≤ℤ limit)

-- the local sum of offsets at a place inside of its row
abbrev pub sum_by : Bool → ℤ → ℤ → ℤ → ℤ → ℤ
sum_by column west north_west north north_east = if column then pos 4 *ℤ north else west +ℤ north_west +ℤ north +ℤ north_east

-- the central differences of the sixteen bands below those of a wavefront: `near` of the eight below, in row i at the columns that continue those of step i;
-- `beside` of the same eight, at the columns of the wavefront itself; and `far` of the eight below these, at the columns that continue them
pub record Lower : Type 0 where
  pub near : List (List ℤ)
  pub beside : List (List ℤ)
  pub far : List (List ℤ)

-- along a diagonal, the number that stands so many lanes lower: among the lower bands, or among those of the wavefront, which came to that column as many steps before
unfoldable pub diagonal_in : List (List ℤ) → List (List ℤ) → ℕ → ℕ → ℕ → ℤ
diagonal_in lower own k lag b = if nat_lt b lag then place lower (k - lag) (8 + b - lag) else place own (k - lag) (b - lag)

-- the central difference, at the column of a band of the wavefront at step k, of the band so many below it
unfoldable pub lagged_in : Lower → List (List ℤ) → ℕ → ℕ → ℕ → ℤ
lagged_in lower own k lag b = if nat_lt lag 8 then diagonal_in lower.near own k lag b else diagonal_in lower.far lower.beside k (lag - 8) b

-- a component of U: a directional difference in full mode, then those of the previous bands, then 0
unfoldable pub component_in : Bool → ℕ → List (List ℤ) → Lower → List (List ℤ) → ℕ → ℕ → ℕ → ℤ
component_in reduced previous directions lower own k index b =
    let first = if reduced then 0 else 3 in
    if nat_lt index first then place directions index b
    else if nat_lt (index - first) previous then lagged_in lower own k (index - first + 1) b
    else pos 0

-- each number of 64 rows of eight lanes is below a limit in size
abbrev pub AreRowsBelow : ℕ → List (List ℤ) → Type 0
AreRowsBelow limit rows = (k b : ℕ) → k < 64 → b < 8 → unsigned_abs (place rows k b) < limit

-- each central difference of the bands below is below a limit in size, of those that so many previous bands ask for
pub record AreLowerBelow (previous limit : ℕ) (lower : Lower) : Type 0 where
  pub near : AreRowsBelow limit lower.near
  pub beside : 7 < previous → AreRowsBelow limit lower.beside
  pub far : 7 < previous → AreRowsBelow limit lower.far

-- those of 16 bits, and those of 32
abbrev pub lower_of : LowerRows → Lower
lower_of rows = record { near = rows.near; beside = rows.beside; far = rows.far }

abbrev pub long_lower_of : LongLowerRows → Lower
long_lower_of rows = record { near = rows.near; beside = rows.beside; far = rows.far }

-- each row of eight lanes holds numbers from 0 to a limit
abbrev pub AreOffsetRows : ℤ → List (List ℤ) → Type 0
AreOffsetRows limit rows = (k b : ℕ) → k < 64 → b < 8 → (pos 0 ≤ℤ place rows k b) × (place rows k b ≤ℤ limit)

-- the local sum of offsets of a lane at step k, of rows that hold offsets by step, and those of the row above
abbrev pub sum_at : Bool → List (List ℤ) → List (List ℤ) → ℕ → ℕ → ℤ
sum_at column numbers above k b = sum_by column (place numbers (k - 1) b) (place above (k - 1) b) (place above k b) (place above (k + 1) b)

-- line b of eight
abbrev pub line_of : List (List ℤ) → ℕ → List ℤ
line_of lines b = slice_index_or lines b []

-- each of 64 places of a line holds a number from 0 to a limit
abbrev pub AreLineOffsets : ℤ → List ℤ → Type 0
AreLineOffsets limit line = (i : ℕ) → i < 64 → (pos 0 ≤ℤ lane line i) × (lane line i ≤ℤ limit)

-- each of eight lines from number `least` on holds numbers from 0 to a limit
abbrev pub AreOffsetLines : ℕ → ℤ → List (List ℤ) → Type 0
AreOffsetLines least limit lines = (b : ℕ) → least ≤ b → b < 8 → AreLineOffsets limit (line_of lines b)

-- the local sum of offsets at place i of a line, of a line of offsets and that of the row above
abbrev pub sum_along : Bool → List ℤ → List ℤ → ℕ → ℤ
sum_along column numbers above i = sum_by column (lane numbers (i - 1)) (lane above (i - 1)) (lane above i) (lane above (i + 1))

-- no rows of weights
abbrev pub no_rows : WeightRows
no_rows = record { rows = [] }

-- the rows of weights that were kept for a lane
abbrev pub kept_rows : List WeightRows → ℕ → List (List ℤ)
kept_rows ends b = (slice_index_or ends b no_rows).rows

-- no rows of weights of 32 bits
abbrev pub no_long_rows : LongWeightRows
no_long_rows = record { rows = [] }

-- the rows of weights of 32 bits that were kept for a lane
abbrev pub kept_long_rows : List LongWeightRows → ℕ → List (List ℤ)
kept_long_rows ends b = (slice_index_or ends b no_long_rows).rows
