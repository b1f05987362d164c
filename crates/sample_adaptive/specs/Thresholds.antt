-- The code parameter by the accumulator: how large it has to be at each counter.
use Rattle.std.specs.Prelude.{ℕ, ◌≡◌, ◌+◌, ◌-◌, ◌*◌, ◌/◌, ◌^◌, ◌<◌, ◌≤◌, ◌==◌, nat_lt, if◌then◌else◌, List, length, slice_index_or}

-- the least accumulator with which k is at least j: any where j is 0, and none up to 2^30 where j is above D - 2
unfoldable pub threshold : ℕ → ℕ → ℕ → ℕ
threshold bits j counter = if j == 0 then 0 else if nat_lt (bits - 2) j then 2 ^ 30 else counter * 2 ^ j - 49 * counter / 128

-- a table with a row of 520 counters for each j: it has the thresholds up to j = D, of the counters up to 2^γ* + 7
pub record AreThresholds (bits gamma_star : ℕ) (table : List ℕ) : Type 0 where
  pub size : length table ≡ 9360
  pub entries : (j counter : ℕ) → j ≤ bits → counter < 2 ^ gamma_star + 8 → slice_index_or table (520 * j + counter) 0 ≡ threshold bits j counter

-- the first rows, and the first counters of the next row, are thresholds
pub record HasFirst (bits gamma_star rows counters : ℕ) (table : List ℕ) : Type 0 where
  pub size : length table ≡ 9360
  pub above : (j counter : ℕ) → j < rows → counter < 2 ^ gamma_star + 8 → slice_index_or table (520 * j + counter) 0 ≡ threshold bits j counter
  pub begun : (counter : ℕ) → counter < counters → slice_index_or table (520 * rows + counter) 0 ≡ threshold bits rows counter
