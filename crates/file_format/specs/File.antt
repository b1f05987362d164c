-- What a file is: a header, a body, and zeros to whole output words (CCSDS 123.0-B-1, "Compressed image").
use Rattle.std.specs.Prelude.{ℕ, ◌-◌, ◌*◌, ◌/◌, ◌%◌, Bool, false, List, [], ◌∷◌, ◌++◌, length, take, drop, replicate, zero, suc}
use Rattle.cube_core.specs.Image.{Image}
use Rattle.cube_core.specs.Order.{places}
use Rattle.header_bits.specs.declared.params.Params.{Params}
use Rattle.header_bits.specs.declared.params.Coder.{Coder}
use Rattle.header_bits.specs.declared.params.Coder.TheVariants.{Sample, Block}
use Rattle.header_bits.specs.Bits.{number_of}
use Rattle.header_bits.specs.Header.{header_of}
use Rattle.sample_prediction.specs.Residual.{residuals}
use Rattle.sample_adaptive.specs.Settings.{settings}
use Rattle.sample_adaptive.specs.Body.{sample_body}
use Rattle.block_adaptive.specs.Chosen.{chosen_block_body}

-- the body of residuals, which are in encoding order, by the coder that the parameters name
abbrev pub body_by : Coder → Params → List ℕ → List Bool
body_by (Sample umax gamma_star gamma_zero start) p numbers = sample_body (settings p) (places p.shape p.order) numbers
body_by (Block size restricted reference) p numbers = chosen_block_body (record { bits = p.kind.bits; restricted = restricted }) size reference numbers

unfoldable pub body_of : Params → List ℕ → List Bool
body_of p numbers = body_by p.coder p numbers

-- the number of fill bits after `bits` bits: the fewest that complete an output word of `word` bytes
abbrev pub fill_length : ℕ → ℕ → ℕ
fill_length word bits = (8 * word - bits % (8 * word)) % (8 * word)

-- bits, filled with zeros to whole output words
abbrev pub filled : ℕ → List Bool → List Bool
filled word bits = bits ++ replicate (fill_length word (length bits)) false

-- the first n bytes of bits
unfoldable pub packed_from : ℕ → List Bool → List ℕ
packed_from zero bits = []
packed_from (suc n) bits = number_of (take 8 bits) ∷ packed_from n (drop 8 bits)

-- the bytes of bits
unfoldable pub packed : List Bool → List ℕ
packed bits = packed_from (length bits / 8) bits

-- the bits of the file of residuals
unfoldable pub file_bits : List ℕ → Params → List Bool
file_bits numbers p = filled p.word (header_of p ++ body_of p numbers)

-- the file of residuals
unfoldable pub file_of_residuals : List ℕ → Params → List ℕ
file_of_residuals numbers p = packed (file_bits numbers p)

-- the file of a cube
unfoldable pub file_of : Image → Params → List ℕ
file_of c p = file_of_residuals (residuals p c) p
