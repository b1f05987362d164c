-- A bound on the number that the register holds (CCSDS 123.0-B-1, "Prediction Calculation").
use Rattle.std.specs.Prelude.{ℕ, ◌≡◌, ◌+◌, ◌-◌, ◌*◌, ◌^◌, ◌<◌, ◌≤◌, ℤ, pos, ◌+ℤ◌, ◌-ℤ◌, ◌*ℤ◌, unsigned_abs}
use Rattle.header_bits.specs.declared.params.Params.{Params}
use Rattle.header_bits.specs.Lawful.{IsLawful}
use Rattle.cube_core.specs.Kind.{smid}
use Rattle.cube_core.specs.Image.{Image, IsCube, IsPlace}
use Rattle.sample_prediction.specs.declared.predictor.Predictor.{Predictor}
use Rattle.sample_prediction.specs.Predictor.{predictor_of, component_count}
use Rattle.sample_prediction.specs.LocalSum.{local_sum}
use Rattle.sample_prediction.specs.Differences.{difference_vector}
use Rattle.sample_prediction.specs.Prediction.{inner_product, weight_vector}

-- the number that goes into the register at row y, column x: the inner product of W and U, plus 2^Ω·(σ - 4·s_mid)
abbrev pub register_sum : Params → Image → ℕ → ℕ → ℕ → ℤ
register_sum p c z y x =
    inner_product (weight_vector p c z (y * c.shape.columns + x)) (difference_vector (predictor_of p) c z y x)
    +ℤ pos (2 ^ p.omega) *ℤ (local_sum (predictor_of p) c z y x -ℤ pos 4 *ℤ smid c.kind)

-- its absolute value is below 2^45
abbrev pub RegisterBound : Type 0
RegisterBound =
    (p : Params) (c : Image) (z y x : ℕ) → IsLawful p → IsCube c → c.shape ≡ p.shape → c.kind ≡ p.kind
    → IsPlace c.shape z y x → 0 < y + x → unsigned_abs (register_sum p c z y x) < 2 ^ 45

-- more than the sum can be for `count` components, weights of Ω + 3 bits and samples of D = `bits`: a product is below 2^(Ω+D+4) in size, and what is added
-- to them is too
abbrev pub greatest_sum : ℕ → ℕ → ℕ → ℕ
greatest_sum omega bits count = (count + 1) * 2 ^ (omega + bits + 4)

-- its absolute value is below that
abbrev pub CountedBound : Type 0
CountedBound =
    (p : Params) (c : Image) (z y x : ℕ) → IsLawful p → IsCube c → c.shape ≡ p.shape → c.kind ≡ p.kind
    → IsPlace c.shape z y x → 0 < y + x → unsigned_abs (register_sum p c z y x) < greatest_sum p.omega p.kind.bits (component_count (predictor_of p) z)

-- R bits hold any such sum, so that the register never wraps
abbrev pub NeverWraps : Predictor → ℕ → ℕ → Type 0
NeverWraps p bits count = greatest_sum p.omega bits count ≤ 2 ^ (p.register - 1)
