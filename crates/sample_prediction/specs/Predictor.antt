-- The parameters of the predictor (CCSDS 123.0-B-1, "Predictor").
use Rattle.std.specs.Prelude.{ℕ, ◌+◌, min, if◌then◌else◌}
use Rattle.header_bits.specs.declared.params.Params.{Params}
use Rattle.sample_prediction.specs.declared.predictor.Predictor.{Predictor}

abbrev pub predictor_of : Params → Predictor
predictor_of p = record {
  previous = p.previous;
  reduced = p.reduced;
  column = p.column;
  register = p.register;
  omega = p.omega;
  interval_log = p.interval_log;
  vmin = p.vmin;
  vmax = p.vmax;
}

-- the number of previous bands from which band z is predicted: min(z, P)
abbrev pub previous_bands : Predictor → ℕ → ℕ
previous_bands p z = min z p.previous

-- C, the number of components of U in band z
abbrev pub component_count : Predictor → ℕ → ℕ
component_count p z = if p.reduced then previous_bands p z else 3 + previous_bands p z
