-- The settings of the sample-adaptive coder among the parameters (CCSDS 123.0-B-1, "Sample-adaptive entropy coder").
use Rattle.std.specs.Prelude.{ℕ, ◌≡◌, ◌+◌, ◌<◌, ◌≤◌, length}
use Rattle.cube_core.specs.Shape.{InRange}
use Rattle.header_bits.specs.declared.params.Params.{Params}
use Rattle.header_bits.specs.declared.params.Coder.{Coder}
use Rattle.header_bits.specs.declared.params.Coder.TheVariants.{Sample, Block}
use Rattle.header_bits.specs.declared.params.CountStart.{CountStart}
use Rattle.header_bits.specs.declared.params.CountStart.TheVariants.{Constant, Each}
use Rattle.sample_adaptive.specs.Statistics.{CoderSettings, constant_of}

-- the settings of a coder for samples of `bits` bits
abbrev pub coder_settings : ℕ → Coder → CoderSettings
coder_settings bits (Sample umax gamma_star gamma_zero start) =
    record { bits = bits; umax = umax; gamma_star = gamma_star; gamma_zero = gamma_zero; start = start }
coder_settings bits (Block size restricted reference) =
    record { bits = bits; umax = 0; gamma_star = 0; gamma_zero = 0; start = Constant 0 }

abbrev pub settings : Params → CoderSettings
settings p = coder_settings p.kind.bits p.coder

-- the coder is the sample-adaptive one
abbrev pub IsSample : Coder → Type 0
IsSample (Sample umax gamma_star gamma_zero start) = Unit {0}
IsSample (Block size restricted reference) = ⊥

-- an accumulator table has an entry for each band
abbrev pub HasEntries : ℕ → CountStart → Type 0
HasEntries bands (Constant k) = Unit {0}
HasEntries bands (Each table) = length table ≡ bands

-- the settings are in range for an image of `bands` bands
pub record AreLawful (bands : ℕ) (c : CoderSettings) : Type 0 where
  pub bits : InRange 2 16 c.bits
  pub umax : InRange 8 32 c.umax
  pub gamma_star : InRange 4 9 c.gamma_star
  pub gamma_zero : InRange 1 8 c.gamma_zero
  pub order : c.gamma_zero + 1 ≤ c.gamma_star
  pub entries : HasEntries bands c.start
  pub constants : (z : ℕ) → z < bands → constant_of c.start z + 2 ≤ c.bits

-- the parameters name this coder, and its settings are in range
pub record AreForSamples (p : Params) : Type 0 where
  pub coder : IsSample p.coder
  pub lawful : AreLawful p.shape.bands (settings p)
