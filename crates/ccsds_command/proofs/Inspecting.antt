-- The header of a file's first bytes is the header of the file.
use Rattle.std.proofs.Common.{◌≡◌, ◌*◌, ◌≤◌, ℕ, Bool, List, ◌++◌, length, take, drop, Option, Some, Result, Ok, Err, IfOk, IfErr, sym, ap, ◌∙◌, inr}
use Rattle.std.proofs.Common.{append_assoc, arith}
use Rattle.std.proofs.lemmas.List.{take-append-drop, drop-append-le}
use Rattle.cube_core.specs.declared.fault.Fault.{Fault}
use Rattle.header_bits.specs.declared.params.Params.{Params}
use Rattle.header_bits.specs.Bits.{bits_of_bytes}
use Rattle.header_bits.specs.Header.{ReadsHeader, header_at}
use Rattle.header_bits.proofs.Bytes.{bits_of_bytes-append, length-bits_of_bytes}
use Rattle.header_bits.proofs.Headers.{header_exact}
use Rattle.ccsds_command.specs.Inspect.{AreFirst, HasHeader, IsInspectRefusal, header_limit}

pub header_of_all : (input bytes : List ℕ) (n : ℕ) (p : Params) (size : ℕ) → bytes ≡ take n input → size ≤ length bytes
    → ReadsHeader (bits_of_bytes bytes) (Ok (p, size)) → ReadsHeader (bits_of_bytes input) (Ok (p, size))
header_of_all input bytes n p size front fits read =
    let more : List Bool = bits_of_bytes (drop n input) in
    let rest : List Bool = drop (8 * size) (bits_of_bytes bytes) in
    let whole : input ≡ bytes ++ drop n input = sym (take-append-drop n input) ∙ ap (λ (v : List ℕ). v ++ drop n input) (sym front) in
    let bits : bits_of_bytes input ≡ bits_of_bytes bytes ++ more = ap bits_of_bytes whole ∙ bits_of_bytes-append bytes (drop n input) in
    let found = header_exact.found p (bits_of_bytes bytes) rest read in
    let text : bits_of_bytes input ≡ found.0 ++ (rest ++ more) =
    bits ∙ ap (λ (v : List Bool). v ++ more) found.2 ∙ append_assoc found.0 rest more in
    let left : drop (8 * size) (bits_of_bytes input) ≡ rest ++ more =
    ap (λ (v : List Bool). drop (8 * size) v) bits
    ∙ drop-append-le (8 * size) (bits_of_bytes bytes) more (omega (arith, fits, length-bits_of_bytes bytes)) in
    ap header_at text ∙ header_exact.again p found.0 (rest ++ more) found.1 ∙ ap (λ (v : List Bool). Ok (p, v)) (sym left)

-- what reading a header says of the source whose first bytes were read
module _ (left : Option (List ℕ)) (bytes : List ℕ) (first : AreFirst left bytes) where
  pub header_is : (r : Result (Params × ℕ) Fault) → IfOk r (λ found. found.1 ≤ length bytes) → ReadsHeader (bits_of_bytes bytes) r
      → IfOk r (λ found. HasHeader left found.0 found.1)
  header_is (Ok found) fits read = (bytes, first, fits, read, λ input is. header_of_all input bytes header_limit found.0 found.1 (first.0 input is) fits read)
  header_is (Err fault) fits read = tt

  pub refusal_is : (r : Result (Params × ℕ) Fault) (failures failures_now : ℕ) → ReadsHeader (bits_of_bytes bytes) r
      → IfErr r (IsInspectRefusal left failures failures_now)
  refusal_is (Ok found) failures failures_now read = tt
  refusal_is (Err fault) failures failures_now read = inr (bytes, first, read)
