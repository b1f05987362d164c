-- Bands of a column side by side in lanes.
use Rattle.std.specs.Prelude.{ℕ, zero, suc, ◌+◌, List, slice_set}
use Rattle.lanes.specs.Lanes.{number}
use Rattle.sample_adaptive.specs.declared.band_state.BandState.{BandState}
use Rattle.sample_adaptive.specs.BandStates.{state_of}

-- n bands with other statistics, from band `at` on: one counter, and accumulators by their lanes
unfoldable pub with_lanes : List BandState → ℕ → ℕ → List ℕ → ℕ → List BandState
with_lanes bands at counter accumulators zero = bands
with_lanes bands at counter accumulators (suc n) =
    let before = with_lanes bands at counter accumulators n in
    slice_set before (at + n) (record (state_of before (at + n)) { statistics = record { counter = counter; accumulator = number accumulators n } })

-- a list with n other numbers, from index `at` on
unfoldable pub with_numbers : List ℕ → ℕ → List ℕ → ℕ → List ℕ
with_numbers numbers at lanes zero = numbers
with_numbers numbers at lanes (suc n) = slice_set (with_numbers numbers at lanes n) (at + n) (number lanes n)
