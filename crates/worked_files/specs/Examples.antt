-- Cubes, parameters and files of the worked examples, and their tests.
use Rattle.std.specs.Prelude.{ℕ, zero, suc, ◌+◌, ◌*◌, List, [], ◌∷◌, map, take, replicate, Bool, false, ℤ, pos, negsuc}
use Rattle.cube_core.specs.declared.order.Order.TheVariants.{Bsq}
use Rattle.cube_core.specs.Image.{Image}
use Rattle.cube_core.specs.Examples.{unsigned, signed}
use Rattle.cube_core.specs.Steps.{Test}
use Rattle.header_bits.specs.declared.params.Params.{Params}
use Rattle.header_bits.specs.declared.params.Coder.TheVariants.{Block}
use Rattle.header_bits.specs.Bits.{bits_of, bits_of_bytes}
use Rattle.header_bits.specs.Examples.{common, cube_a, with_weights}
use Rattle.file_format.specs.File.{packed, file_of}
use Rattle.file_format.specs.Files.{file_test}

-- a cube of the parameters' shape and kind
abbrev pub cube : Params → List ℤ → Image
cube p samples = record { shape = p.shape; kind = p.kind; samples = samples }

-- the file of unsigned samples
abbrev pub file : Params → List ℕ → List ℕ
file p samples = file_of (cube p (map pos samples)) p

-- so many bytes, told as one number
abbrev pub bytes : ℕ → ℕ → List ℕ
bytes n number = packed (bits_of (8 * n) number)

-- the test of a file of so many bytes, told as one number
abbrev pub test : ℕ → ℕ → Test
test n number = file_test (bits_of_bytes (bytes n number))

-- the tests of a file's first n bytes, of its first n + 1, and so on, so many of them
abbrev pub tests_of_cuts : List ℕ → ℕ → ℕ → List Test
tests_of_cuts file n zero = []
tests_of_cuts file n (suc more) = file_test (bits_of_bytes (take n file)) ∷ tests_of_cuts file (n + 1) more

-- ---- parameters and samples

abbrev pub one_below : ℕ → ℕ → ℕ → Params
one_below nx ny nz = record (common nx ny nz) { previous = 1 }

-- coarse weights, whose steps have one exponent
abbrev pub coarse_steps : ℕ → ℕ → ℕ → ℤ → Params
coarse_steps nx ny nz exponent = record (one_below nx ny nz) { omega = 4; vmin = exponent; vmax = exponent }

-- coarse weights, and steps whose exponent grows over its whole range
abbrev pub growing_steps : Params
growing_steps = record (one_below 8 3 2) { omega = 4; interval_log = 4; vmin = negsuc 5; vmax = pos 9 }

abbrev pub signed_sixteen : Params
signed_sixteen = record (common 1 1 1) { kind = signed 16 }

abbrev pub four_byte_words : Params
four_byte_words = record (common 1 2 1) { word = 4 }

abbrev pub two_below : Params
two_below = record (common 1 2 3) { previous = 2; omega = 4 }

abbrev pub coarse_table : ℕ → ℤ → Params
coarse_table q entry = record (with_weights 1 2 2 1 q (entry ∷ [])) { omega = 4 }

abbrev pub few_bits : ℕ → ℕ → Bool → Params
few_bits ny bits restricted = record (common 1 ny 1) { kind = unsigned bits; coder = Block 8 restricted 1 }

abbrev pub samples_a : List ℕ
samples_a = 100 ∷ 102 ∷ 105 ∷ 101 ∷ 104 ∷ 103 ∷ 110 ∷ 111 ∷ 115 ∷ 112 ∷ 113 ∷ 114 ∷ []

abbrev pub blocks_a : Params
blocks_a = record (cube_a Bsq) { coder = Block 8 false 1 }

abbrev pub middles : ℕ → List ℕ
middles n = replicate n 128
