-- What is written is a file, and no file is shorter than its header and the least length of a body together.
use Rattle.std.specs.List.{AllByRecursion}
use Rattle.std.proofs.Common.{◌≡◌, ◌+◌, ◌*◌, ◌/◌, ◌%◌, ◌-◌, ◌<◌, ◌≤◌, ◌^◌, ℕ, zero, suc, Bool, List, [], ◌∷◌, ◌++◌, length, take, drop, refl, ap, inl, inr}
use Rattle.std.proofs.Common.{length-append, arith}
use Rattle.std.proofs.lemmas.Bool.{cases_eq}
use Rattle.std.proofs.lemmas.List.{take-append-drop, length-take, length-drop, length-replicate}
use Rattle.std.proofs.lemmas.Nat.{mod_below, div-add-mod'}
use Rattle.std.proofs.Math.Nat.{mod-eq_of_lt, mod_self, sub-zero}
use Rattle.header_bits.specs.declared.params.Params.{Params}
use Rattle.header_bits.specs.declared.params.Coder.{Coder}
use Rattle.header_bits.specs.declared.params.Coder.TheVariants.{Sample, Block}
use Rattle.header_bits.specs.Bits.{bits_of_bytes}
use Rattle.header_bits.specs.Lawful.{IsCoder}
use Rattle.header_bits.specs.Header.{header_of}
use Rattle.header_bits.proofs.Numbers.{bits_of-number_of}
use Rattle.header_bits.proofs.Bytes.{length-bits_of_bytes}
use Rattle.header_bits.proofs.Chosen.{chosen_is_spelt}
use Rattle.sample_prediction.specs.Residual.{residuals}
use Rattle.block_adaptive.proofs.Bodies.{chosen_is_body}
use Rattle.block_adaptive.proofs.Handed.{size_least}
use Rattle.file_format.specs.File.{body_of, body_by, fill_length, filled, packed_from, packed, file_bits, file_of_residuals, file_of}
use Rattle.file_format.specs.Files.{IsBodyBy}
use Rattle.file_format.specs.Laws.{ChosenIsFile, NoShorterFile}
use Rattle.file_format.proofs.FileLaws.{inside, file_text, body_long}

-- bytes packed from bits have these bits
packed_bits : (n : ℕ) (bits : List Bool) → length bits ≡ 8 * n → bits_of_bytes (packed_from n bits) ≡ bits
unfolding packed_from bits_of_bytes
packed_bits zero [] e = refl
packed_bits zero (b ∷ bits) e = absurd (omega arith)
packed_bits (suc n) bits e =
    let eight : length (take 8 bits) ≡ 8 = omega (arith, e, length-take 8 bits) in
    let byte = rw eight at (bits_of-number_of (take 8 bits)) in
    rw (byte, packed_bits n (drop 8 bits) (omega (arith, e, length-drop 8 bits))) (take-append-drop 8 bits)

packed_again : (bits : List Bool) → length bits % 8 ≡ 0 → bits_of_bytes (packed bits) ≡ bits
unfolding packed
packed_again bits e = packed_bits _ _ (omega (arith, e))

-- a length and its fill are whole output words
whole_words : (n unit : ℕ) → 0 < unit → (q : ℕ) × (n + (unit - n % unit) % unit ≡ unit * q)
whole_words n unit some =
    let split = div-add-mod' n unit in
    elim (cases_eq (n % unit) 0) [
      | inl h ↦ (n / unit, rw (h, sub-zero, mod_self) (omega (arith, split, h)))
      | inr h ↦
          let rest : (unit - n % unit) % unit ≡ unit - n % unit = mod-eq_of_lt (omega (arith, h)) in
          (n / unit + 1, rw rest (omega (arith, split, mod_below n unit some)))
    ]

-- filled bits are whole bytes
filled_whole : (word : ℕ) (bits : List Bool) → 1 ≤ word → length (filled word bits) % 8 ≡ 0
filled_whole word bits a =
    let f = whole_words (length bits) (8 * word) (omega arith) in
    rw (length-append, length-replicate, f.1) (omega arith)

chosen_body : (p : Params) (coder : Coder) (numbers : List ℕ) → IsCoder p coder → AllByRecursion (λ v. v < 2 ^ p.kind.bits) numbers
    → IsBodyBy coder p numbers (body_by coder p numbers)
chosen_body p (Sample umax gamma_star gamma_zero start) numbers lawful range = refl
chosen_body p (Block size restricted reference) numbers lawful range =
    chosen_is_body _ size reference numbers (omega (arith, size_least _ lawful.0)) lawful.2.0 range

pub chosen_is_file : ChosenIsFile
unfolding file_of file_of_residuals file_bits body_of
chosen_is_file p c lawful cube =
    let bits : List Bool = header_of p ++ body_of p (residuals _ c) in
    record {
      cube = cube;
      header = header_of p;
      body = body_of p (residuals _ c);
      fill = fill_length p.word (length bits);
      spelt = chosen_is_spelt _ lawful;
      coded = chosen_body _ _ _ lawful.coder (inside p lawful c cube);
      few = mod_below (8 * p.word - length bits % (8 * p.word)) (8 * p.word) (omega (arith, lawful.word.0));
      text = packed_again _ (filled_whole p.word bits lawful.word.0);
    }

pub no_shorter_file : NoShorterFile
no_shorter_file bytes p c lawful f =
    omega (arith, body_long bytes p c lawful f, ap length (file_text bytes p c lawful f), length-append {A = Bool}, length-bits_of_bytes bytes)
