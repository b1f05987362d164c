-- Parameters and headers of the worked examples.
use Rattle.std.specs.Prelude.{ℕ, ◌-◌, ◌%◌, false, Bool, List, ◌++◌, length, ℤ, pos, negsuc, replicate}
use Rattle.cube_core.specs.declared.order.Order.{Order}
use Rattle.cube_core.specs.Examples.{sizes, unsigned}
use Rattle.header_bits.specs.declared.params.Params.{Params}
use Rattle.header_bits.specs.declared.params.WeightStart.TheVariants.{Table}
use Rattle.header_bits.specs.declared.params.Coder.TheVariants.{Sample, Block}
use Rattle.header_bits.specs.declared.params.CountStart.TheVariants.{Constant, Each}
use Rattle.header_bits.specs.Bits.{bits_of}
use Rattle.header_bits.specs.Plain.{plain}

-- the parameters from which the examples are made
abbrev pub common : ℕ → ℕ → ℕ → Params
common nx ny nz = plain (sizes nx ny nz) (unsigned 8)

-- full mode and neighbour-oriented sums
abbrev pub cube_a : Order → Params
cube_a order = record (common 3 2 2) { previous = 1; reduced = false; column = false; order = order }

-- coarse weights, and steps whose exponent stays at -4
abbrev pub coarse_steps : Params
coarse_steps = record (common 1 3 2) { previous = 1; omega = 4; vmin = negsuc 3; vmax = negsuc 3 }

-- the greatest weight resolution, with a register of `size` bits
abbrev pub deep : ℕ → Params
deep size = record (common 1 2 2) { kind = unsigned 11; previous = 1; omega = 19; register = size }

abbrev pub block : ℕ → ℕ → ℕ → Bool → ℕ → Params
block nx ny nz restricted interval = record (common nx ny nz) { coder = Block 8 restricted interval }

abbrev pub narrow_block : ℕ → Bool → Params
narrow_block depth restricted = record (block 1 1 1 restricted 1) { kind = unsigned depth }

abbrev pub with_weights : ℕ → ℕ → ℕ → ℕ → ℕ → List ℤ → Params
with_weights nx ny nz bands q entries = record (common nx ny nz) { previous = bands; start = Table q entries }

-- a table of n weights of zero; two bands with one previous band have seven weights in full mode
abbrev pub full_weights : ℕ → Params
full_weights n = record (with_weights 2 2 2 1 3 (replicate n (pos 0))) { reduced = false; column = false }

abbrev pub with_constants : ℕ → ℕ → ℕ → List ℕ → Params
with_constants nx ny nz entries = record (common nx ny nz) { coder = Sample 16 6 1 (Each entries) }

abbrev pub with_sample_coder : ℕ → ℕ → ℕ → ℕ → Params
with_sample_coder umax gamma_star gamma_zero k = record (common 1 2 1) { coder = Sample umax gamma_star gamma_zero (Constant k) }

abbrev pub with_exponents : ℤ → ℤ → Params
with_exponents least greatest = record (common 1 1 1) { vmin = least; vmax = greatest }

-- sixteen bits, the greatest weight resolution, and a register of `size` bits
abbrev pub with_register : ℕ → Params
with_register size = record (common 1 1 1) { kind = unsigned 16; omega = 19; register = size }

abbrev pub zeros : ℕ → List ℕ
zeros n = replicate n 0

-- bits, and the zeros that fill the last byte
abbrev pub filled_up : List Bool → List Bool
filled_up bits = bits ++ replicate ((8 - length bits % 8) % 8) false

-- a header of nineteen bytes
abbrev pub header : ℕ → List Bool
header number = bits_of 152 number
