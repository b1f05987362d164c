-- Local differences, and the local difference vector U (CCSDS 123.0-B-1, "Local Differences").
use Rattle.std.specs.Prelude.{ℕ, zero, suc, ◌-◌, ◌==◌, ℤ, pos, ◌-ℤ◌, ◌*ℤ◌, List, [], ◌∷◌, ◌++◌, if◌then◌else◌}
use Rattle.cube_core.specs.Image.{Image, sample_at}
use Rattle.sample_prediction.specs.declared.predictor.Predictor.{Predictor}
use Rattle.sample_prediction.specs.Predictor.{previous_bands}
use Rattle.sample_prediction.specs.LocalSum.{local_sum, west, north, north_west}

-- four times a sample, less the local sum σ at a place
abbrev pub difference_from : Predictor → Image → ℕ → ℕ → ℕ → ℤ → ℤ
difference_from p c z y x sample = pos 4 *ℤ sample -ℤ local_sum p c z y x

-- d, the central local difference: that of the place's own sample
unfoldable pub central_difference : Predictor → Image → ℕ → ℕ → ℕ → ℤ
central_difference p c z y x = difference_from p c z y x (sample_at c z y x)

-- d^N, d^W and d^NW, the directional local differences: those of the neighbours to the north, west and north-west
unfoldable pub directional_differences : Predictor → Image → ℕ → ℕ → ℕ → List ℤ
directional_differences p c z y x =
    if y == 0 then pos 0 ∷ pos 0 ∷ pos 0 ∷ []
    else if x == 0 then
    difference_from p c z y x (north c z y x) ∷ difference_from p c z y x (north c z y x) ∷ difference_from p c z y x (north c z y x) ∷ []
    else
    difference_from p c z y x (north c z y x) ∷ difference_from p c z y x (west c z y x) ∷ difference_from p c z y x (north_west c z y x) ∷ []

-- the central differences at row y, column x of the n bands before band z, the nearest first
unfoldable pub spectral_differences : Predictor → Image → ℕ → ℕ → ℕ → ℕ → List ℤ
spectral_differences p c z y x zero = []
spectral_differences p c z y x (suc n) = spectral_differences p c z y x n ++ central_difference p c (z - suc n) y x ∷ []

-- U, the local difference vector: in full mode the directional differences, then in both modes the central ones of the previous bands
unfoldable pub difference_vector : Predictor → Image → ℕ → ℕ → ℕ → List ℤ
difference_vector p c z y x =
    let spectral = spectral_differences p c z y x (previous_bands p z) in
    if p.reduced then spectral else directional_differences p c z y x ++ spectral
