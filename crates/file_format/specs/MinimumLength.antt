-- The minimum length of a body, in bits.
use Rattle.std.specs.Prelude.{ℕ, ◌*◌, nat_lt, Bool, List, length}
use Rattle.cube_core.specs.declared.fault.Fault.TheVariants.{Truncated}
use Rattle.cube_core.specs.Steps.{Test, refuse_if}
use Rattle.cube_core.specs.Shape.{sample_count}
use Rattle.header_bits.specs.declared.params.Params.{Params}
use Rattle.header_bits.specs.declared.params.Coder.{Coder}
use Rattle.header_bits.specs.declared.params.Coder.TheVariants.{Sample, Block}
use Rattle.block_adaptive.specs.Segments.{segment_count}

-- one bit for each of n samples; with blocks, three for each segment
abbrev pub minimum_length_by : Coder → ℕ → ℕ
minimum_length_by (Sample umax gamma_star gamma_zero start) n = n
minimum_length_by (Block size restricted reference) n = 3 * segment_count n size reference

-- every body by these parameters has at least so many bits
abbrev pub minimum_length : Params → ℕ
minimum_length p = minimum_length_by p.coder (sample_count p.shape)

-- fewer bits than every body has are refused, whatever they are; the file has `count` bits
abbrev pub minimum_length_test : ℕ → Params → List Bool → Test
minimum_length_test count p bits = refuse_if (nat_lt (length bits) (minimum_length p)) (Truncated count)
