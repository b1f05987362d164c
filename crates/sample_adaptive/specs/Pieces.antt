-- Statistics within a piece of residuals, at whose end they are halved.
use Rattle.std.specs.Prelude.{ℕ, ◌≡◌, ◌+◌, ◌*◌, ◌/◌, ◌^◌, ◌≤◌, ◌==◌, if◌then◌else◌}
use Rattle.sample_adaptive.specs.declared.code_settings.CodeSettings.{CodeSettings}
use Rattle.sample_adaptive.specs.declared.code_word.Code.{Code}
use Rattle.sample_adaptive.specs.declared.statistics.Statistics.{Statistics}

-- statistics that were counted and summed, which are halved if the counter has come to 2^γ*
abbrev pub at_piece_end : ℕ → Statistics → Statistics
at_piece_end gamma_star s =
    if s.counter == 2 ^ gamma_star then record { counter = 2 ^ gamma_star / 2; accumulator = (s.accumulator + 1) / 2 } else s

-- Γ is 1 to 2^γ*, and Σ at most 2^16·Γ
pub record AreCounted (gamma_star : ℕ) (s : Statistics) : Type 0 where
  pub least : 1 ≤ s.counter
  pub most : s.counter ≤ 2 ^ gamma_star
  pub bound : s.accumulator ≤ 2 ^ 16 * s.counter

-- the code of residuals that aren't the first of their bands, with some k of at most D - 2
pub record AreWordsOf (settings : CodeSettings) (code : Code) : Type 0 where
  pub limit : code.limit ≡ settings.limit
  pub bits : code.bits ≡ settings.bits
  pub k : code.k + 2 ≤ settings.bits
