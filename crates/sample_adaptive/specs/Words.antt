-- Code words of the sample-adaptive coder (CCSDS 123.0-B-1, "Sample-adaptive entropy coder").
use Rattle.std.specs.Prelude.{ℕ, ◌+◌, ◌*◌, ◌/◌, ◌%◌, ◌^◌, ◌<◌, ◌≤◌, nat_lt, Bool, true, false, if◌then◌else◌, List, [], ◌∷◌, ◌++◌, replicate}
use Rattle.header_bits.specs.Bits.{bits_of}
use Rattle.sample_adaptive.specs.declared.code_word.Code.{Code}
use Rattle.sample_adaptive.specs.Statistics.{CoderSettings, statistics, code_parameter}

-- the forms of a code word: zeros, a one and the k low bits; or an escape, U_max zeros and a residual in D bits
pub data Form : Type 0 where
  Plain : ℕ → ℕ → Form
  Escape : ℕ → Form

-- a form of this code: fewer zeros than the limit and k low bits, or D bits after an escape
abbrev pub IsForm : Code → Form → Type 0
IsForm c (Plain count low) = (count < c.limit) × (low < 2 ^ c.k)
IsForm c (Escape residual) = residual < 2 ^ c.bits

unfoldable pub form_text : Code → Form → List Bool
form_text c (Plain count low) = replicate count false ++ true ∷ bits_of c.k low
form_text c (Escape residual) = replicate c.limit false ++ bits_of c.bits residual

-- the residual that a form spells
abbrev pub spelt : Code → Form → ℕ
spelt c (Plain count low) = count * 2 ^ c.k + low
spelt c (Escape residual) = residual

-- the form of a residual: plain if its quotient ⌊residual / 2^k⌋ is below the limit, else an escape
unfoldable pub form_of : Code → ℕ → Form
form_of c residual = if nat_lt (residual / 2 ^ c.k) c.limit then Plain (residual / 2 ^ c.k) (residual % 2 ^ c.k) else Escape residual

-- the code word of a residual: the bits of its form
abbrev pub code_word : Code → ℕ → List Bool
code_word c residual = form_text c (form_of c residual)

-- a code whose words have at most 48 bits
pub record IsCode (c : Code) : Type 0 where
  pub limit : c.limit ≤ 32
  pub k : c.k ≤ c.bits
  pub bits : c.bits ≤ 16

-- the code of a band's next residual after these: the first is written in D bits, the others with k
unfoldable pub code_at : CoderSettings → ℕ → List ℕ → Code
code_at c z [] = record { limit = 0; k = 0; bits = c.bits }
code_at c z (first ∷ later) = record { limit = c.umax; k = code_parameter c.bits (statistics c z (first ∷ later)); bits = c.bits }
