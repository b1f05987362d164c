-- What the samples tell of a run of one band, in lines of its places.
use Rattle.std.specs.Prelude.{ℕ, ◌≡◌, ◌+◌, ◌*◌, ◌^◌, ◌<◌, ℤ, pos, ◌+ℤ◌, ◌-ℤ◌, ◌*ℤ◌, ◌≤ℤ◌, unsigned_abs, List, [], length, slice_index_or, slice_get, Some, if◌then◌else◌}
use Rattle.predict_core.specs.Following.{PredictorState}
use Rattle.cube_core.specs.Kind.{smin}
use Rattle.predict_core.specs.ImageRuns.{ImageRun}
use Rattle.lanes.specs.Lanes.{place}
use Rattle.group_prediction.specs.declared.band_lines.BandLines.{BandLines}
use Rattle.group_prediction.specs.declared.long.lines.LongLines.{LongLines}
use Rattle.sample_prediction.specs.declared.predictor.Predictor.{Predictor}
use Rattle.sample_prediction.specs.LocalSum.{local_sum}
use Rattle.sample_prediction.specs.Differences.{central_difference, directional_differences, difference_vector}

-- a number is four times an offset less a local sum, if 16 bits hold that
abbrev pub IsToldDifference : ℕ → ℤ → ℤ → Type 0
IsToldDifference offset sum difference =
    pos 0 ≤ℤ sum → unsigned_abs (pos (4 * offset) -ℤ sum) < 2 ^ 15 → difference ≡ pos (4 * offset) -ℤ sum

-- the index of the first spectral component: after the directional ones in full mode
abbrev pub spectral_from : Predictor → ℕ
spectral_from p = if p.reduced then 0 else 3

-- a line holds d of the places of a run of band z, except at t = 0
abbrev pub HoldsCentral : Predictor → ℕ → ImageRun → List ℤ → Type 0
HoldsCentral p z r own =
    (i : ℕ) → i < r.count → 0 < r.y + (r.x + i) → slice_index_or own i (pos 0) ≡ central_difference p r.image z r.y (r.x + i)

-- no lines
abbrev pub no_lines : BandLines
no_lines = record { band = 0; sums = []; own = []; components = [] }

-- lines of several bands hold the central differences of each
abbrev pub HoldCentrals : Predictor → ImageRun → List BandLines → Type 0
HoldCentrals p r ls =
    (j : ℕ) → j < length ls → HoldsCentral p (slice_index_or ls j no_lines).band r (slice_index_or ls j no_lines).own

-- a line holds σ - 4·s_min of them
abbrev pub HoldsSums : Predictor → ℕ → ImageRun → List ℤ → Type 0
HoldsSums p z r sums =
    (i : ℕ) → i < r.count → 0 < r.y + (r.x + i) → pos 4 *ℤ smin r.image.kind +ℤ slice_index_or sums i (pos 0) ≡ local_sum p r.image z r.y (r.x + i)

-- three lines hold the directional differences of them
abbrev pub HoldsDirections : Predictor → ℕ → ImageRun → List (List ℤ) → Type 0
HoldsDirections p z r lines = (i k : ℕ) → i < r.count → 0 < r.y + (r.x + i) → k < 3
    → place lines k i ≡ slice_index_or (directional_differences p r.image z r.y (r.x + i)) k (pos 0)

-- n lines hold the components of U of them, and zeros after the last component
abbrev pub HoldsComponents : ℕ → Predictor → ℕ → ImageRun → List (List ℤ) → Type 0
HoldsComponents n p z r lines = (i k : ℕ) → i < r.count → 0 < r.y + (r.x + i) → k < n
    → place lines k i ≡ slice_index_or (difference_vector p r.image z r.y (r.x + i)) k (pos 0)

-- the lines of band z hold what its samples and those of the previous bands tell, with n components
pub record AreBandsLines (n : ℕ) (p : Predictor) (z : ℕ) (r : ImageRun) (l : BandLines) : Type 0 where
  pub band : l.band ≡ z
  pub sums : HoldsSums p z r l.sums
  pub own : HoldsCentral p z r l.own
  pub components : HoldsComponents n p z r l.components

-- ---- in lines of 32 bits, which hold all of it

-- a number is four times an offset less a local sum
abbrev pub IsLongDifference : ℕ → ℤ → ℤ → Type 0
IsLongDifference offset sum difference = pos 0 ≤ℤ sum → difference ≡ pos (4 * offset) -ℤ sum

-- no lines
abbrev pub no_long_lines : LongLines
no_long_lines = record { band = 0; sums = []; own = []; components = [] }

-- lines of several bands hold the central differences of each
abbrev pub HoldLongCentrals : Predictor → ImageRun → List LongLines → Type 0
HoldLongCentrals p r ls =
    (j : ℕ) → j < length ls → HoldsCentral p (slice_index_or ls j no_long_lines).band r (slice_index_or ls j no_long_lines).own

-- and n components of each
abbrev pub HoldLongComponents : ℕ → Predictor → ImageRun → List LongLines → Type 0
HoldLongComponents n p r ls =
    (j : ℕ) → j < length ls → HoldsComponents n p (slice_index_or ls j no_long_lines).band r (slice_index_or ls j no_long_lines).components

-- the lines of band z hold what its samples and those of the previous bands tell, with n components
pub record AreLongLines (n : ℕ) (p : Predictor) (z : ℕ) (r : ImageRun) (l : LongLines) : Type 0 where
  pub band : l.band ≡ z
  pub sums : HoldsSums p z r l.sums
  pub own : HoldsCentral p z r l.own
  pub components : HoldsComponents n p z r l.components

-- predictors of bands have the same parameters
abbrev pub AreAlike : List PredictorState → Type 0
AreAlike bands = (i j : ℕ) (a b : PredictorState) → slice_get bands i ≡ Some a → slice_get bands j ≡ Some b → b.predictor ≡ a.predictor
