-- Synthetic numbers, and the checksum of numbers.
use Rattle.std.specs.Prelude.{ℕ, ℤ, pos, ◌-ℤ◌, zero, suc, ◌+◌, ◌-◌, ◌*◌, ◌/◌, ◌%◌, ◌^◌, ◌==◌, List, map, fold, if◌then◌else◌}
use Rattle.std.specs.Int.{w16, w64, rotate_left, leading_zeros}
use Rattle.cube_core.specs.Order.{upto}

-- the state that the linear congruential generator starts from
abbrev pub first_state : ℕ
first_state = 0x9E3779B97F4A7C15

-- the state after another
abbrev pub next_state : ℕ → ℕ
next_state state = (6364136223846793005 * state + 1442695040888963407) % 2 ^ 64

-- the state after so many numbers
unfoldable pub state_after : ℕ → ℕ
state_after zero = first_state
state_after (suc n) = next_state (state_after n)

-- so many of the highest bits of a state
abbrev pub highest : ℕ → ℕ → ℕ
highest bits state = state / 2 ^ (64 - bits)

-- a residual in the i-th place, by a random word, whose zeros in front are counted, and some random bits below them
abbrev pub residual_of : ℕ → ℕ → ℕ → ℕ
residual_of i word few =
    let stretch = i / 4096 in
    if stretch % 8 == 7 then 0 else 16 * leading_zeros w16 word + few / 2 ^ (stretch % 4 + 1)

-- two numbers are drawn for each residual
unfoldable pub synthetic_residual : ℕ → ℕ
synthetic_residual i = residual_of i (highest 16 (state_after (2 * i + 1))) (highest 5 (state_after (2 * i + 2)))

-- so many synthetic residuals
abbrev pub synthetic_residuals : ℕ → List ℕ
synthetic_residuals n = map synthetic_residual (upto n)

-- the i-th of signed numbers of 14 bits
unfoldable pub synthetic_weight : ℕ → ℤ
synthetic_weight i = pos (highest 14 (state_after (i + 1))) -ℤ pos 8192

-- so many signed numbers of 14 bits
abbrev pub synthetic_weights : ℕ → List ℤ
synthetic_weights n = map synthetic_weight (upto n)

-- a checksum with one more number
abbrev pub mixed : ℕ → ℕ → ℕ
mixed checksum number = (rotate_left w64 checksum 5 + number) % 2 ^ 64

-- the checksum of numbers
abbrev pub checksum : List ℕ → ℕ
checksum numbers = fold mixed 0 numbers
