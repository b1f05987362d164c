-- The code words of residuals of one band, none of which is its first.
use Rattle.std.specs.Prelude.{ℕ, ◌≡◌, ◌+◌, ◌*◌, ◌/◌, ◌%◌, ◌^◌, ◌<◌, ◌≤◌, Bool, List, [], ◌∷◌, ◌++◌, length, take, min, slice_index_or}
use Rattle.std.specs.List.{AllByRecursion, sum}
use Rattle.sample_adaptive.specs.declared.code_settings.CodeSettings.{CodeSettings}
use Rattle.sample_adaptive.specs.declared.code_word.Code.{Code}
use Rattle.sample_adaptive.specs.declared.kept_code.KeptCode.{KeptCode}
use Rattle.sample_adaptive.specs.declared.kept_codes.KeptCodes.{KeptCodes}
use Rattle.sample_adaptive.specs.declared.lane_words.LaneWords.{LaneWords}
use Rattle.sample_adaptive.specs.declared.statistics.Statistics.{Statistics}
use Rattle.lanes.specs.Lanes.{number}
use Rattle.sample_adaptive.specs.Statistics.{AreStatistics, next_statistics, code_parameter}
use Rattle.sample_adaptive.specs.Thresholds.{AreThresholds, threshold}
use Rattle.sample_adaptive.specs.Words.{code_word}

-- the code of the next residual
abbrev pub code_with : CodeSettings → Statistics → Code
code_with c s = record { limit = c.limit; k = code_parameter c.bits s; bits = c.bits }

-- the code words of residuals from these statistics on, each with the statistics after those before it
unfoldable pub words_from : CodeSettings → Statistics → List ℕ → List Bool
words_from c s [] = []
words_from c s (residual ∷ residuals) = code_word (code_with c s) residual ++ words_from c (next_statistics c.rescaling.size s residual) residuals

-- k is at most D - 2, and what depends on it is stored beside it
pub record IsKeptCode (bits counter : ℕ) (kept : KeptCode) : Type 0 where
  pub k : kept.k + 2 ≤ bits
  pub one : kept.one ≡ 2 ^ kept.k
  pub shortest : kept.shortest ≡ kept.k + 1
  pub first : kept.first ≡ 520 * kept.k + counter

-- k is at most D - 2; a word without an escape that has at most `longest` bits needs none, and has at most 14 bits
pub record IsKeptCodes (bits limit : ℕ) (kept : KeptCodes) : Type 0 where
  pub k : kept.k + 2 ≤ bits
  pub row : kept.row ≡ 520 * kept.k
  pub power : (j : ℕ) → j < 8 → number kept.power j ≡ 2 ^ kept.k
  pub next_power : (j : ℕ) → j < 8 → number kept.next_power j ≡ 2 ^ (kept.k + 1)
  pub shortest : (j : ℕ) → j < 8 → number kept.shortest j ≡ kept.k + 2
  pub longest : (j : ℕ) → j < 8 → (number kept.longest j ≤ 14) × (number kept.longest j ≤ limit + kept.k)

-- the code word of a residual without an escape, as the lowest bits of a number
pub record IsPlainWord (k residual bits length : ℕ) : Type 0 where
  pub long : length ≡ residual / 2 ^ k + 1 + k
  pub low : bits ≡ 2 ^ k + residual % 2 ^ k

-- residuals of a band, from these statistics on, within which the counter doesn't pass 2^γ*
pub record IsPiece (c : CodeSettings) (s : Statistics) (table residuals : List ℕ) : Type 0 where
  pub statistics : AreStatistics c.rescaling.size s
  pub within : s.counter + length residuals ≤ 2 ^ c.rescaling.size
  pub below : AllByRecursion (λ n. n < 2 ^ c.bits) residuals
  pub thresholds : AreThresholds c.bits c.rescaling.size table

-- the sum after i residuals of a piece
abbrev pub sum_after : Statistics → List ℕ → ℕ → ℕ
sum_after s residuals i = s.accumulator + sum (take i residuals)

-- the statistics after i residuals of a piece
abbrev pub statistics_within : Statistics → List ℕ → ℕ → Statistics
statistics_within s residuals i = record { counter = s.counter + i; accumulator = sum_after s residuals i }

-- the code word of residual i of a piece
abbrev pub text_within : CodeSettings → Statistics → List ℕ → ℕ → List Bool
text_within c s residuals i = code_word (code_with c (statistics_within s residuals i)) (slice_index_or residuals i 0)

-- residuals i to i + 7 of a piece have code parameters k or k + 1: their sums lie between thresholds
pub record AreNeighbours (c : CodeSettings) (s : Statistics) (residuals : List ℕ) (k i : ℕ) : Type 0 where
  pub least : (j : ℕ) → j < 8 → threshold c.bits k (s.counter + (i + j)) ≤ sum_after s residuals (i + j)
  pub most : (j : ℕ) → j < 8 → sum_after s residuals (i + j) < threshold c.bits (k + 2) (s.counter + (i + j))

-- eight words in lanes are those of residuals i to i + 7 of a piece as if none was an escape, and each residual at most 32,767
pub record AreLaneWords (c : CodeSettings) (s : Statistics) (residuals : List ℕ) (k i : ℕ) (words : LaneWords) : Type 0 where
  pub word : (j : ℕ) → j < 8
      → IsPlainWord (code_parameter c.bits (statistics_within s residuals (i + j))) (min (slice_index_or residuals (i + j) 0) 32767) (number words.bits j)
      (number words.lengths j)
  pub parameter : (j : ℕ) → j < 8 → k ≤ code_parameter c.bits (statistics_within s residuals (i + j))
