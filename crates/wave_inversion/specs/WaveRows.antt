-- Lines of eight bands, each a column further to the left than the one before, and the rows that they are turned into.
use Rattle.std.specs.Prelude.{ℕ, ◌≡◌, ◌⊎◌, ◌+◌, ◌-◌, ◌^◌, ◌<◌, ◌≤◌, min, ℤ, pos, ◌-ℤ◌, ◌*ℤ◌, ◌≤ℤ◌, Bool, List, length, slice_index}
use Rattle.std.specs.Int.{w16, cast_unsigned}
use Rattle.cube_core.specs.Image.{Image}
use Rattle.lanes.specs.Lanes.{lane, place}
use Rattle.predict_core.specs.Following.{PredictorState}
use Rattle.predict_core.specs.BandLanes.{HasWeights}
use Rattle.wave_inversion.specs.Inversion.{band_at}
use Rattle.predict_core.specs.Offsets.{number_at}
use Rattle.wave_inversion.specs.Wave.{Lower, AreOffsetRows, AreRowsBelow, AreLowerBelow, sum_at, sum_by}
use Rattle.wave_inversion.specs.WaveForms.{WaveForm}
use Rattle.wave_inversion.specs.WaveLanes.{column_at, column_within}

-- the number that the 16 bits of z are, read without a sign
abbrev pub without_sign : ℤ → ℤ
without_sign z = pos (cast_unsigned w16 z)

-- a line has the numbers of a row from column origin - back on, and after the last one this once more; each of its 64 numbers is one of the row, or 0
pub record IsSkewed (row : List ℕ) (origin back : ℕ) (line : ℕ → ℤ) : Type 0 where
  pub numbers : (i : ℕ) → i < 64 → back ≤ origin + i → origin + i - back ≤ length row
      → line i ≡ pos (slice_index row (column_within (length row) (origin + i - back)))
  pub each : (i : ℕ) → i < 64
      → (line i ≡ pos 0) ⊎ ((x : ℕ) × (x < length row) × (line i ≡ pos (slice_index row x)))

-- number i of line b of eight is the offset at column origin + i - 7 - b of row y of the band so many below band first + b, and after the last column that of
-- the last one once more, or 0 where there is no such band; lines before number `least` have numbers without meaning
pub record AreLinesOf (c : Image) (first below least y origin : ℕ) (number : ℕ → ℕ → ℤ) : Type 0 where
  pub numbers : (b i : ℕ) → b < 8 → i < 64 → least ≤ b → below ≤ first + b → first + b < c.shape.bands + below → 7 + b ≤ origin + i → column_at origin i b ≤ c.shape.columns
      → number b i ≡ pos (number_at c (first + b - below) y (column_within c.shape.columns (column_at origin i b)))
  pub none : (b i : ℕ) → b < 8 → i < 64 → least ≤ b → first + b < below → number b i ≡ pos 0

-- row i of 64 has in lane b the offset at column origin + i - 7 - b of row y of the band so many below band first + b, and after the last column that of
-- the last one once more, or 0 where there is no such band; in lanes before number `least` it has numbers without meaning
pub record AreRowsOf (c : Image) (first below least y origin : ℕ) (rows : List (List ℤ)) : Type 0 where
  pub numbers : (i b : ℕ) → i < 64 → b < 8 → least ≤ b → below ≤ first + b → first + b < c.shape.bands + below → 7 + b ≤ origin + i → column_at origin i b ≤ c.shape.columns
      → place rows i b ≡ pos (number_at c (first + b - below) y (column_within c.shape.columns (column_at origin i b)))
  pub none : (i b : ℕ) → i < 64 → b < 8 → least ≤ b → first + b < below → place rows i b ≡ pos 0

-- each of eight lines of 16 bits from number `least` on holds numbers up to a limit, read without a sign
abbrev pub AreLinesWithin : ℕ → ℤ → List (List ℤ) → Type 0
AreLinesWithin least limit lines = (b i : ℕ) → least ≤ b → b < 8 → i < 64 → without_sign (place lines b i) ≤ℤ limit

-- the central difference at place i of a line of offsets, below another, both read without a sign
abbrev pub central_along : Bool → List ℤ → List ℤ → ℕ → ℤ
central_along column numbers above i = pos 4 *ℤ without_sign (lane numbers i) -ℤ sum_by column (without_sign (lane numbers (i - 1)))
    (without_sign (lane above (i - 1))) (without_sign (lane above i)) (without_sign (lane above (i + 1)))

-- row i has in lane b the central difference, of offsets in two such rows, of the band so many below band first + b
pub record AreCentralsOf (column : Bool) (c : Image) (first below least y origin : ℕ) (rows : List (List ℤ)) : Type 0 where
  pub numbers : List (List ℤ)
  pub above : List (List ℤ)
  pub numbers_is : AreRowsOf c first below least y origin numbers
  pub above_is : AreRowsOf c first below least (y - 1) origin above
  pub rows_are : (i b : ℕ) → 1 ≤ i → i < 63 → b < 8 → place rows i b ≡ pos 4 *ℤ place numbers i b -ℤ sum_at column numbers above i b

-- what a wavefront has before its first step: the offsets here and in the row above, the central differences of the bands and of those below them, and the weights
pub record AreFilled (q : ℕ) (f : WaveForm) (c : Image) (bands : List PredictorState) (first y origin : ℕ) (above numbers : List (List ℤ)) (lower : Lower)
    (own weights : List (List ℤ)) : Type 0 where
  pub above_is : AreRowsOf c first 0 0 (y - 1) origin above
  pub numbers_is : AreRowsOf c first 0 0 y origin numbers
  pub near_is : AreCentralsOf f.column c first 8 (8 - f.previous) y (origin + 8) lower.near
  pub beside_is : 7 < f.previous → AreCentralsOf f.column c first 8 (8 - f.previous) y origin lower.beside
  pub far_is : 7 < f.previous → AreCentralsOf f.column c first 16 (16 - f.previous) y (origin + 8) lower.far
  pub own_is : (i b : ℕ) → 1 ≤ i → i < 8 → b < 8 → place own i b ≡ pos 4 *ℤ place numbers i b -ℤ sum_at f.column numbers above i b
  pub has : (b : ℕ) → b < 8 → HasWeights q b (band_at bands (min (first + b) (length bands - 1))) weights
  pub above_in : AreOffsetRows f.greatest above
  pub numbers_in : AreOffsetRows f.greatest numbers
  pub lower_in : AreLowerBelow f.previous (2 ^ (f.bits + 2)) lower
  pub own_in : AreRowsBelow (2 ^ (f.bits + 2)) own
