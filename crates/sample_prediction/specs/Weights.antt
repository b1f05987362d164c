-- Weights: their initialization and their update (CCSDS 123.0-B-1, "Weights").
use Rattle.std.specs.Prelude.{ℕ, zero, suc, ◌+◌, ◌-◌, ◌*◌, ◌^◌, nat_le, ℤ, pos, negsuc, neg_ℤ, ◌+ℤ◌, ◌-ℤ◌, ◌*ℤ◌, List, [], ◌∷◌, map, take, drop, Bool}
use Rattle.std.specs.Prelude.{if◌then◌else◌}
use Rattle.header_bits.specs.declared.params.Params.{Params}
use Rattle.header_bits.specs.declared.params.WeightStart.{WeightStart}
use Rattle.header_bits.specs.declared.params.WeightStart.TheVariants.{Usual, Table}
use Rattle.sample_prediction.specs.Arithmetic.{floor_div, clip}
use Rattle.sample_prediction.specs.declared.predictor.Predictor.{Predictor}
use Rattle.sample_prediction.specs.Predictor.{predictor_of, previous_bands, component_count}

-- the least and the greatest weight
abbrev pub weight_min : ℕ → ℤ
weight_min omega = neg_ℤ (pos (2 ^ (omega + 2)))

abbrev pub weight_max : ℕ → ℤ
weight_max omega = pos (2 ^ (omega + 2)) -ℤ pos 1

-- n weights from w on, each ⌊previous / 8⌋
unfoldable pub eighths : ℤ → ℕ → List ℤ
eighths w zero = []
eighths w (suc n) = w ∷ eighths (floor_div w 8) n

-- the default weights: 0 for directional differences, 7·2^(Ω-3) for the previous band, and ⌊previous / 8⌋ for each further one
unfoldable pub default_weights : Predictor → ℕ → List ℤ
default_weights p z =
    let spectral = eighths (pos (7 * 2 ^ (p.omega - 3))) (previous_bands p z) in
    if p.reduced then spectral else pos 0 ∷ pos 0 ∷ pos 0 ∷ spectral

-- the weight of an entry Λ of Q bits: 2^(Ω+3-Q)·Λ + h, where h is 2^(Ω+2-Q) - 1, or 0 if Q = Ω + 3
abbrev pub table_weight : ℕ → ℕ → ℤ → ℤ
table_weight omega q entry =
    pos (2 ^ (omega + 3 - q)) *ℤ entry +ℤ pos (if nat_le q (omega + 2) then 2 ^ (omega + 2 - q) - 1 else 0)

-- the number of entries of a table before those of band z
unfoldable pub entries_before : Predictor → ℕ → ℕ
entries_before p zero = 0
entries_before p (suc z) = entries_before p z + component_count p z

-- the initial weights of band z by a table
unfoldable pub table_weights : Predictor → ℕ → List ℤ → ℕ → List ℤ
table_weights p q entries z =
    map (table_weight p.omega q) (take (component_count p z) (drop (entries_before p z) entries))

-- the initial weights of band z, by default or by a table
unfoldable pub weights_by : Predictor → WeightStart → ℕ → List ℤ
weights_by p Usual z = default_weights p z
weights_by p (Table q entries) z = table_weights p q entries z

-- W(1), the initial weights of band z
abbrev pub start_weights : Params → ℕ → List ℤ
start_weights p z = weights_by (predictor_of p) p.start z

-- ρ(t) without the term D - Ω: v_min + ⌊(t - columns) / t_inc⌋, clipped to v_min .. v_max
unfoldable pub growth : Predictor → ℕ → ℕ → ℤ
growth p columns t = clip (p.vmin +ℤ floor_div (pos t -ℤ pos columns) (2 ^ p.interval_log)) p.vmin p.vmax

-- ρ(t), the weight update scaling exponent after raster index t, for samples of D = `bits` bits
unfoldable pub step_exponent : Predictor → ℕ → ℕ → ℕ → ℤ
step_exponent p columns bits t = growth p columns t +ℤ pos bits -ℤ pos p.omega

-- the step of a weight for a component a, with the sign of the error: ⌊(a + 2^ρ) / 2^(ρ+1)⌋ if ρ ≥ 0, else a·2^(-ρ-1)
unfoldable pub step : ℤ → ℤ → ℤ
step (pos r) a = floor_div (a +ℤ pos (2 ^ r)) (2 ^ (r + 1))
step (negsuc r) a = a *ℤ pos (2 ^ r)

-- a component with the sign of the error
abbrev pub signed_by : Bool → ℤ → ℤ
signed_by negative u = if negative then neg_ℤ u else u

-- a weight after its update, by its component u
unfoldable pub updated_weight : ℕ → ℤ → Bool → ℤ → ℤ → ℤ
updated_weight omega exponent negative w u =
    clip (w +ℤ step exponent (signed_by negative u)) (weight_min omega) (weight_max omega)

-- all weights after their update
unfoldable pub updated_weights : ℕ → ℤ → Bool → List ℤ → List ℤ → List ℤ
updated_weights omega exponent negative [] us = []
updated_weights omega exponent negative (w ∷ ws) [] = []
updated_weights omega exponent negative (w ∷ ws) (u ∷ us) =
    updated_weight omega exponent negative w u ∷ updated_weights omega exponent negative ws us
