-- The inverse of the mapping: the sample of a mapped residual (CCSDS 123.0-B-1, "Mapped Prediction Residual").
use Rattle.std.specs.Prelude.{ℕ, ◌≡◌, ◌+◌, ◌-◌, ◌*◌, ◌/◌, ◌%◌, ◌^◌, ◌<◌, ◌==◌, nat_lt, ℤ, pos, neg_ℤ, ◌+ℤ◌, ◌-ℤ◌, ◌*ℤ◌, ◌≤ℤ◌, unsigned_abs, if◌then◌else◌}
use Rattle.cube_core.specs.Kind.{SampleKind, IsKind, IsSample, smin, smax}
use Rattle.sample_prediction.specs.Arithmetic.{floor_div}
use Rattle.sample_prediction.specs.Residual.{theta_between, mapped}

-- v is from low to high
abbrev pub Between : ℤ → ℤ → ℤ → Type 0
Between low high v = (low ≤ℤ v) × (v ≤ℤ high)

-- s̃ is in its range for a kind of samples, 2·s_min to 2·s_max + 1
abbrev pub IsScaled : SampleKind → ℤ → Type 0
IsScaled k scaled = Between (pos 2 *ℤ smin k) (pos 2 *ℤ smax k +ℤ pos 1) scaled

-- the prediction residual Δ that is mapped to n, if θ and `below` are the distances of ŝ from the nearer and from the lower limit
abbrev pub error_of : ℕ → ℕ → ℕ → ℕ → ℤ
error_of theta below parity n =
    if nat_lt (2 * theta) n then (if nat_lt theta below then neg_ℤ (pos (n - theta)) else pos (n - theta))
    else if (n + parity) % 2 == 0 then pos ((n + 1) / 2)
    else neg_ℤ (pos ((n + 1) / 2))

-- the sample between low and high whose mapped residual is n
unfoldable pub unmapped_between : ℤ → ℤ → ℤ → ℕ → ℤ
unmapped_between low high scaled n =
    let predicted = floor_div scaled 2 in
    predicted +ℤ error_of (theta_between low high predicted) (unsigned_abs (predicted -ℤ low)) (unsigned_abs scaled) n

-- For each s̃ in range the mapped residual of a sample is below 2^D, and each number below 2^D is that of exactly one sample.
abbrev pub OneSample : Type 0
OneSample =
    (k : SampleKind) (scaled : ℤ) → IsKind k → IsScaled k scaled
    → ((sample : ℤ) → IsSample k sample → mapped k scaled sample < 2 ^ k.bits)
    × ((n : ℕ) → n < 2 ^ k.bits → (sample : ℤ) × IsSample k sample × (mapped k scaled sample ≡ n) × ((other : ℤ) → IsSample k other
    → mapped k scaled other ≡ n → other ≡ sample))
