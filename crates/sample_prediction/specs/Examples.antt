-- Parameters and cubes of the worked examples.
use Rattle.std.specs.Prelude.{ℕ, List, [], ◌∷◌, map, ℤ, pos, negsuc, false}
use Rattle.header_bits.specs.declared.params.Params.{Params}
use Rattle.header_bits.specs.Plain.{plain}
use Rattle.header_bits.specs.declared.params.WeightStart.TheVariants.{Table}
use Rattle.cube_core.specs.Examples.{sizes, unsigned}
use Rattle.cube_core.specs.Image.{Image}
use Rattle.cube_core.specs.Order.{upto}
use Rattle.cube_core.specs.declared.order.Order.TheVariants.{Bi}
use Rattle.sample_prediction.specs.Prediction.{scaled_prediction}

-- a cube of unsigned samples of 8 bits
abbrev pub cube : ℕ → ℕ → ℕ → List ℕ → Image
cube columns rows bands samples = record { shape = sizes columns rows bands; kind = unsigned 8; samples = map pos samples }

-- the parameters from which the examples are made
abbrev pub common : Params
common = plain (sizes 1 1 1) (unsigned 8)

abbrev pub one_below : Params
one_below = record common { previous = 1 }

-- few fractional bits, so that weights are coarse
abbrev pub coarse : Params
coarse = record one_below { omega = 4 }

-- coarse weights, and steps of one exponent
abbrev pub coarse_steps : ℤ → Params
coarse_steps exponent = record coarse { vmin = exponent; vmax = exponent }

-- coarse weights, and steps whose exponent grows over its whole range
abbrev pub growing_steps : Params
growing_steps = record coarse { interval_log = 4; vmin = negsuc 5; vmax = pos 9 }

-- the greatest weight resolution, with a register of `register` bits
abbrev pub fine : ℕ → Params
fine register = record one_below { omega = 19; register = register }

-- coarse weights from a table with one entry of q bits
abbrev pub coarse_table : ℕ → ℤ → Params
coarse_table q entry = record coarse { start = Table q (entry ∷ []) }

-- the parameters of cube A, band sequential or interleaved
abbrev pub full : Params
full = record one_below { reduced = false; column = false }

abbrev pub interleaved : ℕ → Params
interleaved depth = record full { order = Bi depth }

abbrev pub cube_a : Image
cube_a = cube 3 2 2 (100 ∷ 102 ∷ 105 ∷ 101 ∷ 104 ∷ 103 ∷ 110 ∷ 111 ∷ 115 ∷ 112 ∷ 113 ∷ 114 ∷ [])

-- the first n scaled predicted values of a band of cube A
abbrev pub scaled_of_cube_a : ℕ → ℕ → List ℤ
scaled_of_cube_a z n = map (scaled_prediction full cube_a z) (upto n)

-- samples of 11 bits over which a register of 32 bits wraps
abbrev pub register_cube : Image
register_cube = record { shape = sizes 1 2 2; kind = unsigned 11; samples = pos 4 ∷ pos 0 ∷ pos 0 ∷ pos 0 ∷ [] }
