-- Rows in a cube's raw bytes, of all bands or, in band sequential order, of one; and why they aren't read.
use Rattle.std.specs.Prelude.{ℕ, ◌≡◌, ◌⊎◌, ◌+◌, ◌-◌, ◌*◌, ◌<◌, List, length, Option}
use Rattle.cube_core.specs.declared.fault.Fault.{Fault}
use Rattle.cube_core.specs.declared.fault.Fault.TheVariants.{RawLength, Read, SampleRange}
use Rattle.cube_core.specs.declared.layout.Layout.{Layout}
use Rattle.cube_core.specs.Kind.{SampleKind}
use Rattle.cube_core.specs.Layout.{IsFirstBad}
use Rattle.cube_core.specs.Shape.{Sizes}
use Rattle.command_devices.specs.Devices.{Gave, IsEnd, Rose}
use Rattle.raw_rows.specs.OneRow.{rows_of_raw, samples_of_row}
use Rattle.raw_streams.specs.Streams.{length_in, most_read}

-- how many rows there are
abbrev pub rows_in : Sizes → Layout → ℕ
rows_in s l = (rows_of_raw l.order s).rows

-- how many samples a row has, and how many raw bytes
abbrev pub samples_in_row : Sizes → Layout → ℕ
samples_in_row s l = samples_of_row (rows_of_raw l.order s)

abbrev pub row_bytes : Sizes → Layout → ℕ
row_bytes s l = samples_in_row s l * l.bytes

-- the source gave the raw bytes of all rows from the y-th on, and is at its end
abbrev pub GaveRows : Sizes → Layout → ℕ → Option (List ℕ) → Option (List ℕ) → Type 0
GaveRows s l y left now = (bytes : List ℕ) × Gave left now bytes × (length bytes ≡ (rows_in s l - y) * row_bytes s l) × IsEnd now

-- why `count` rows from the y-th on aren't read: the source failed, or ended within them; the fault says how many bytes there were with those of
-- the rows before
abbrev pub IsCutOff : Sizes → Layout → ℕ → ℕ → Option (List ℕ) → Option (List ℕ) → ℕ → ℕ → Fault → Type 0
IsCutOff s l y count left now failures failures_now fault =
    ((fault ≡ Read) × Rose failures failures_now)
    ⊎ ((bytes : List ℕ) × Gave left now bytes × IsEnd now × (length bytes < count * row_bytes s l) × (failures_now ≡ failures)
    × (fault ≡ RawLength (length_in s l) (y * row_bytes s l + length bytes)))

-- the source, of which y rows came before, ends too early, or has a byte too many
abbrev pub IsWrongRest : Sizes → Layout → ℕ → Option (List ℕ) → ℕ → Type 0
IsWrongRest s l y now had = (IsEnd now × (y * row_bytes s l + had < length_in s l)) ⊎ (y * row_bytes s l + had ≡ most_read s l)

-- why the rows from the y-th on aren't read to the end of the scene
abbrev pub IsRestRefusal : Sizes → Layout → ℕ → Option (List ℕ) → Option (List ℕ) → ℕ → ℕ → Fault → Type 0
IsRestRefusal s l y left now failures failures_now fault =
    ((fault ≡ Read) × Rose failures failures_now)
    ⊎ ((bytes : List ℕ) × Gave left now bytes × IsWrongRest s l y now (length bytes) × (failures_now ≡ failures)
    × (fault ≡ RawLength (length_in s l) (y * row_bytes s l + length bytes)))

-- why rows from the y-th on aren't taken: the rest isn't read to the end of the scene; or it is, and this is the first of its samples that isn't
-- of the kind
abbrev pub IsRowRefusal : Sizes → SampleKind → Layout → ℕ → Option (List ℕ) → Option (List ℕ) → ℕ → ℕ → Fault → Type 0
IsRowRefusal s k l y left now failures failures_now fault =
    IsRestRefusal s l y left now failures failures_now fault
    ⊎ ((bytes : List ℕ) × Gave left now bytes × (length bytes ≡ (rows_in s l - y) * row_bytes s l) × IsEnd now × (failures_now ≡ failures)
    × ((i : ℕ) × (fault ≡ SampleRange (y * samples_in_row s l + i)) × IsFirstBad k l bytes i))
