-- Settings and sizes of the worked examples.
use Rattle.std.specs.Prelude.{ℕ, List}
use Rattle.header_bits.specs.declared.params.CountStart.TheVariants.{Constant, Each}
use Rattle.cube_core.specs.declared.order.Place.{Place}
use Rattle.cube_core.specs.declared.order.Order.TheVariants.{Bsq, Bi}
use Rattle.cube_core.specs.Examples.{sizes}
use Rattle.cube_core.specs.Order.{places}
use Rattle.sample_adaptive.specs.Statistics.{CoderSettings}

-- D = 8, U_max = 16, γ* = 6, γ₀ = 1 and K = 3
abbrev pub common : CoderSettings
common = record { bits = 8; umax = 16; gamma_star = 6; gamma_zero = 1; start = Constant 3 }

abbrev pub of_bits : ℕ → CoderSettings
of_bits bits = record common { bits = bits }

-- U_max = 8 and K = 0
abbrev pub short_limit : ℕ → CoderSettings
short_limit bits = record { bits = bits; umax = 8; gamma_star = 6; gamma_zero = 1; start = Constant 0 }

abbrev pub rescaling : CoderSettings
rescaling = record common { gamma_star = 4 }

abbrev pub with_table : List ℕ → CoderSettings
with_table entries = record common { start = Each entries }

-- the places in band sequential order
abbrev pub bands_apart : ℕ → ℕ → ℕ → List Place
bands_apart columns rows bands = places (sizes columns rows bands) Bsq

-- the places in interleaved order
abbrev pub bands_in_groups : ℕ → ℕ → ℕ → ℕ → List Place
bands_in_groups depth columns rows bands = places (sizes columns rows bands) (Bi depth)
