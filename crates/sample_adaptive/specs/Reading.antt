-- Reading code words and bodies, with the first fault.
use Rattle.std.specs.Prelude.{ℕ, ◌+◌, ◌*◌, ◌/◌, ◌^◌, nat_lt, Bool, if◌then◌else◌, List, [], ◌∷◌, ◌++◌, length, Ok, Err, Option}
use Rattle.cube_core.specs.declared.fault.Fault.{Fault}
use Rattle.cube_core.specs.declared.fault.Fault.TheVariants.{BadCode}
use Rattle.cube_core.specs.declared.order.Place.{Place}
use Rattle.cube_core.specs.Steps.{◌>>=◌, fault_of}
use Rattle.header_bits.specs.Reading.{Reading, number_at, zeros_at}
use Rattle.sample_adaptive.specs.declared.code_word.Code.{Code}
use Rattle.sample_adaptive.specs.Statistics.{CoderSettings}
use Rattle.sample_adaptive.specs.Words.{code_at}
use Rattle.sample_adaptive.specs.Body.{band_residuals}

-- the k low bits after `quotient` zeros and a one; a residual of more than D bits is refused
unfoldable pub plain_at : ℕ → ℕ → Code → ℕ → Reading ℕ
plain_at count index c quotient bits = do
  low ← number_at count c.k bits
  if nat_lt (quotient * 2 ^ c.k + low.0) (2 ^ c.bits) then Ok (quotient * 2 ^ c.k + low.0, low.1) else Err (BadCode index)

-- the residual in D bits after U_max zeros; one whose quotient is below U_max needs no escape, and is refused
unfoldable pub escape_at : ℕ → ℕ → Code → Reading ℕ
escape_at count index c bits = do
  residual ← number_at count c.bits bits
  if nat_lt (residual.0 / 2 ^ c.k) c.limit then Err (BadCode index) else Ok (residual.0, residual.1)

-- one code word, in a file of `count` bits; a form that is no code word is refused with the index
unfoldable pub word_at : ℕ → ℕ → Code → Reading ℕ
word_at count index c bits = do
  quotient ← zeros_at count c.limit bits
  if nat_lt quotient.0 c.limit then plain_at count index c quotient.0 quotient.1 else escape_at count index c quotient.1

-- a fault, with this index if it is `BadCode`
abbrev pub fault_at : ℕ → Fault → Fault
fault_at index (BadCode other) = BadCode index
fault_at index fault = fault

-- the residuals of places, each by the earlier residuals of its band; the places `gone` and their residuals `before` come first
unfoldable pub words_at : ℕ → CoderSettings → List Place → List ℕ → List Place → Reading (List ℕ)
words_at count c gone before [] bits = Ok ([], bits)
words_at count c gone before (p ∷ places) bits = do
  residual ← word_at count (length before) (code_at c p.z (band_residuals p.z gone before)) bits
  residuals ← words_at count c (gone ++ p ∷ []) (before ++ residual.0 ∷ []) places residual.1
  Ok (residual.0 ∷ residuals.0, residuals.1)

-- the residuals of a body
unfoldable pub sample_body_at : ℕ → CoderSettings → List Place → Reading (List ℕ)
sample_body_at count c places bits = words_at count c [] [] places bits

-- the first fault of a body: a form that is no code word, with the index of its residual in encoding order, or bits that end too early
abbrev pub sample_body_fault : ℕ → CoderSettings → List Place → List Bool → Option Fault
sample_body_fault count c places bits = fault_of (sample_body_at count c places bits)
