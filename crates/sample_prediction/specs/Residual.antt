-- The mapped prediction residual δ of each sample (CCSDS 123.0-B-1, "Mapped Prediction Residual").
use Rattle.std.specs.Prelude.{ℕ, ◌+◌, ◌-◌, ◌*◌, ◌/◌, ◌%◌, ◌==◌, nat_lt, min, ℤ, pos, ◌-ℤ◌, int_le, unsigned_abs, List, map, Bool, if◌then◌else◌}
use Rattle.header_bits.specs.declared.params.Params.{Params}
use Rattle.cube_core.specs.Kind.{SampleKind, smin, smax}
use Rattle.cube_core.specs.Image.{Image, sample_at}
use Rattle.cube_core.specs.Order.{places, from}
use Rattle.sample_prediction.specs.Arithmetic.{floor_div}
use Rattle.sample_prediction.specs.Prediction.{scaled_prediction}

-- θ: the distance from ŝ to the nearer limit of the range
abbrev pub theta_between : ℤ → ℤ → ℤ → ℕ
theta_between low high predicted = min (unsigned_abs (predicted -ℤ low)) (unsigned_abs (high -ℤ predicted))

-- whether Δ, negated if s̃ is odd, is 0 or more
abbrev pub agrees : ℤ → ℤ → Bool
agrees scaled error = if unsigned_abs scaled % 2 == 0 then int_le (pos 0) error else int_le error (pos 0)

-- δ, from θ, |Δ| and whether Δ agrees: up to θ both signs alternate, and beyond θ each |Δ| has only one sign
abbrev pub number_of : ℕ → ℕ → Bool → ℕ
number_of theta size agreeing = if nat_lt theta size then size + theta else if agreeing then 2 * size else 2 * size - 1

-- δ of a sample between low and high, from its s̃
unfoldable pub mapped_between : ℤ → ℤ → ℤ → ℤ → ℕ
mapped_between low high scaled sample =
    let predicted = floor_div scaled 2 in
    let error = sample -ℤ predicted in
    number_of (theta_between low high predicted) (unsigned_abs error) (agrees scaled error)

-- δ of a sample of a kind, from its s̃
abbrev pub mapped : SampleKind → ℤ → ℤ → ℕ
mapped k scaled sample = mapped_between (smin k) (smax k) scaled sample

-- δ of the sample at raster index t of band z
unfoldable pub mapped_residual : Params → Image → ℕ → ℕ → ℕ
mapped_residual p c z t =
    mapped c.kind (scaled_prediction p c z t) (sample_at c z (t / c.shape.columns) (t % c.shape.columns))

-- δ of the n places of band z from raster index t on
abbrev pub run_residuals : Params → Image → ℕ → ℕ → ℕ → List ℕ
run_residuals p c z t n = map (mapped_residual p c z) (from t n)

-- δ of all samples, in encoding order
unfoldable pub residuals : Params → Image → List ℕ
residuals p c = map (λ q. mapped_residual p c q.z (q.y * c.shape.columns + q.x)) (places c.shape p.order)
