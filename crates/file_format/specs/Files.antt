-- Which bytes are a file of a cube, and the first fault of bytes that are none.
use Rattle.std.specs.Prelude.{ℕ, ◌≡◌, ◌*◌, ◌<◌, nat_le, ◌||◌, Bool, false, List, [], ◌∷◌, ◌++◌, length, replicate, Result, Ok}
use Rattle.cube_core.specs.declared.fault.Fault.{Fault}
use Rattle.cube_core.specs.declared.fault.Fault.TheVariants.{TooLong, BadFill}
use Rattle.cube_core.specs.Steps.{Test, ◌>>=◌, ◌>>◌, refuse_if}
use Rattle.cube_core.specs.Shape.{sample_count}
use Rattle.cube_core.specs.Image.{Image}
use Rattle.cube_core.specs.Order.{places}
use Rattle.header_bits.specs.declared.params.Params.{Params}
use Rattle.header_bits.specs.declared.params.Coder.{Coder}
use Rattle.header_bits.specs.declared.params.Coder.TheVariants.{Sample, Block}
use Rattle.header_bits.specs.Bits.{bits_of_bytes}
use Rattle.header_bits.specs.Reading.{Reading}
use Rattle.header_bits.specs.Header.{header_at, SpellsHeader}
use Rattle.predict_core.specs.Cubes.{IsCubeOf}
use Rattle.sample_prediction.specs.Residual.{residuals}
use Rattle.sample_adaptive.specs.Settings.{settings}
use Rattle.sample_adaptive.specs.Body.{sample_body}
use Rattle.sample_adaptive.specs.Reading.{sample_body_at}
use Rattle.block_adaptive.specs.DataSets.{IsBlockBody}
use Rattle.block_adaptive.specs.Reading.{block_body_at}
use Rattle.file_format.specs.MinimumLength.{minimum_length_test}

-- the bits are the residuals' code words; or coded data sets of their blocks, by any lawful options
abbrev pub IsBodyBy : Coder → Params → List ℕ → List Bool → Type 0
IsBodyBy (Sample umax gamma_star gamma_zero start) p numbers bits = bits ≡ sample_body (settings p) (places p.shape p.order) numbers
IsBodyBy (Block size restricted reference) p numbers bits = IsBlockBody (record { bits = p.kind.bits; restricted = restricted }) size reference numbers bits

-- the bits are a body of residuals, by the coder that the parameters name
abbrev pub IsBody : Params → List ℕ → List Bool → Type 0
IsBody p numbers bits = IsBodyBy p.coder p numbers bits

-- the bytes are a header of the parameters, a body of the cube's residuals, and fewer zeros than an output word has bits
pub record IsFile (bytes : List ℕ) (p : Params) (c : Image) : Type 0 where
  pub cube : IsCubeOf p c
  pub header : List Bool
  pub body : List Bool
  pub fill : ℕ
  pub spelt : SpellsHeader p header
  pub coded : IsBody p (residuals p c) body
  pub few : fill < 8 * p.word
  pub text : bits_of_bytes bytes ≡ header ++ body ++ replicate fill false

-- the bits that follow the body, or the body's first fault in bit order; the file has `count` bits
abbrev pub after_by : Coder → ℕ → Params → List Bool → Result (List Bool) Fault
after_by (Sample umax gamma_star gamma_zero start) count p bits =
    sample_body_at count (settings p) (places p.shape p.order) bits >>= λ read. Ok read.1
after_by (Block size restricted reference) count p bits =
    block_body_at count (record { bits = p.kind.bits; restricted = restricted }) size reference (sample_count p.shape) bits >>= λ read. Ok read.1

unfoldable pub after_body : ℕ → Params → List Bool → Result (List Bool) Fault
after_body count p bits = after_by p.coder count p bits

-- whether one of the bits is 1
abbrev pub some_one : List Bool → Bool
some_one [] = false
some_one (bit ∷ bits) = bit || some_one bits

-- the fill after a body: fewer bits than an output word has, all of them 0
abbrev pub fill_test : ℕ → List Bool → Test
fill_test word bits = refuse_if (nat_le (8 * word) (length bits)) (TooLong (length bits)) >> refuse_if (some_one bits) BadFill

-- what comes after the header: the body, and then the fill
unfoldable pub body_test : ℕ → Params → List Bool → Test
body_test count p bits = after_body count p bits >>= λ rest. fill_test p.word rest

-- a header followed by at least as many bits as every body has: its parameters and the bits after it, or the first refusal
unfoldable pub head_at : Reading Params
head_at bits = header_at bits >>= λ header. minimum_length_test (length bits) header.0 header.1 >> Ok header

-- a file is refused for the first fault of its header, for too few bits after it, and for the first fault of its body and of its fill
unfoldable pub file_test : List Bool → Test
file_test bits = head_at bits >>= λ header. body_test (length bits) header.0 header.1
