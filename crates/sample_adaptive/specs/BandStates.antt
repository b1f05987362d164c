-- The state of each band: its statistics, and a code parameter k.
use Rattle.std.specs.Prelude.{ℕ, ◌≡◌, ◌+◌, ◌<◌, ◌≤◌, List, [], ◌∷◌, length, map, drop, slice_index_or}
use Rattle.sample_adaptive.specs.declared.code_settings.CodeSettings.{CodeSettings}
use Rattle.sample_adaptive.specs.declared.statistics.Statistics.{Statistics}
use Rattle.sample_adaptive.specs.declared.band_state.BandState.{BandState}
use Rattle.sample_adaptive.specs.Statistics.{AreStatistics}
use Rattle.sample_adaptive.specs.Taken.{no_statistics}

-- the statistics are in range, and k is at most D - 2
pub record IsBandState (settings : CodeSettings) (t : BandState) : Type 0 where
  pub statistics : AreStatistics settings.rescaling.size t.statistics
  pub k : t.k + 2 ≤ settings.bits

-- a placeholder for the state of a band that doesn't exist
abbrev pub no_state : BandState
no_state = record { statistics = no_statistics; k = 0 }

-- the state of a band
abbrev pub state_of : List BandState → ℕ → BandState
state_of bands z = slice_index_or bands z no_state

-- the same for each band
abbrev pub AreBandStates : CodeSettings → List BandState → Type 0
AreBandStates settings bands = (z : ℕ) → z < length bands → IsBandState settings (state_of bands z)

-- the statistics of each band
abbrev pub statistics_of : List BandState → List Statistics
statistics_of bands = map (λ (t : BandState). t.statistics) bands

-- the states of bands whose counters, accumulators and code parameters are these, one of each for each band
abbrev pub states_of : List ℕ → List ℕ → List ℕ → List BandState
states_of [] accumulators parameters = []
states_of (counter ∷ counters) accumulators parameters =
    record { statistics = record { counter = counter; accumulator = slice_index_or accumulators 0 0 }; k = slice_index_or parameters 0 0 }
    ∷ states_of counters (drop 1 accumulators) (drop 1 parameters)
