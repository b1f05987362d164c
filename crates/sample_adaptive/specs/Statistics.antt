-- The statistics of the sample-adaptive coder, and the code parameter (CCSDS 123.0-B-1, "Adaptive code selection statistics").
use Rattle.std.specs.Prelude.{ℕ, ◌+◌, ◌-◌, ◌*◌, ◌/◌, ◌^◌, ◌<◌, ◌≤◌, nat_le, nat_lt, if◌then◌else◌, List, [], ◌∷◌, slice_index}
use Rattle.cube_core.specs.Greatest.{greatest}
use Rattle.header_bits.specs.declared.params.CountStart.{CountStart}
use Rattle.header_bits.specs.declared.params.CountStart.TheVariants.{Constant, Each}
use Rattle.sample_adaptive.specs.declared.statistics.Statistics.{Statistics}

-- D, U_max, γ*, γ₀ and K, which is the same for all bands or has an entry for each
pub record CoderSettings : Type 0 where
  pub bits : ℕ
  pub umax : ℕ
  pub gamma_star : ℕ
  pub gamma_zero : ℕ
  pub start : CountStart

-- K of a band: the constant, or the band's entry of the table
unfoldable pub constant_of : CountStart → ℕ → ℕ
constant_of (Constant k) z = k
constant_of (Each table) z = slice_index table z

-- Γ(1) is 2^γ₀ and Σ(1) is floor((3·2^(K+6) - 49)·Γ(1) / 128)
unfoldable pub start_statistics : ℕ → ℕ → Statistics
start_statistics gamma_zero k = record { counter = 2 ^ gamma_zero; accumulator = (3 * 2 ^ (k + 6) - 49) * 2 ^ gamma_zero / 128 }

abbrev pub first_statistics : CoderSettings → ℕ → Statistics
first_statistics c z = start_statistics c.gamma_zero (constant_of c.start z)

-- the statistics after one more residual: it is added to Σ, and Γ grows by 1; if Γ was 2^γ* - 1, both are halved
unfoldable pub next_statistics : ℕ → Statistics → ℕ → Statistics
next_statistics gamma_star s residual =
    if nat_lt s.counter (2 ^ gamma_star - 1) then record { counter = s.counter + 1; accumulator = s.accumulator + residual }
    else record { counter = (s.counter + 1) / 2; accumulator = (s.accumulator + residual + 1) / 2 }

-- the statistics after more residuals
unfoldable pub statistics_from : ℕ → Statistics → List ℕ → Statistics
statistics_from gamma_star s [] = s
statistics_from gamma_star s (residual ∷ residuals) = statistics_from gamma_star (next_statistics gamma_star s residual) residuals

-- the statistics after residuals of band z, the first of which, at t = 0, isn't counted
unfoldable pub statistics : CoderSettings → ℕ → List ℕ → Statistics
statistics c z [] = first_statistics c z
statistics c z (first ∷ later) = statistics_from c.gamma_star (first_statistics c z) later

-- Γ after residuals of band z
abbrev pub counter : CoderSettings → ℕ → List ℕ → ℕ
counter c z residuals = (statistics c z residuals).counter

-- Σ after residuals of band z
abbrev pub accumulator : CoderSettings → ℕ → List ℕ → ℕ
accumulator c z residuals = (statistics c z residuals).accumulator

-- what Γ·2^k is compared with: Σ + floor(49·Γ / 128)
abbrev pub level : Statistics → ℕ
level s = s.accumulator + 49 * s.counter / 128

-- k: 0 where 2·Γ is above the level, else the greatest up to D - 2 with Γ·2^k at most the level
unfoldable pub code_parameter : ℕ → Statistics → ℕ
code_parameter bits s =
    if nat_lt (level s) (2 * s.counter) then 0
    else greatest (λ k. nat_le (s.counter * 2 ^ k) (level s)) (bits - 2)

-- Γ is 1 to 2^γ* - 1, and Σ at most 2^16·Γ
pub record AreStatistics (gamma_star : ℕ) (s : Statistics) : Type 0 where
  pub least : 1 ≤ s.counter
  pub most : s.counter < 2 ^ gamma_star
  pub bound : s.accumulator ≤ 2 ^ 16 * s.counter
