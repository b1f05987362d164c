-- The bits of bytes.
use Rattle.std.proofs.Common.{◌≡◌, ℕ, zero, suc, ◌+◌, ◌*◌, Bool, List, [], ◌∷◌, ◌++◌, length, take, drop, refl, inl, inr, sym, ap, ◌∙◌, append_assoc, arith}
use Rattle.std.proofs.lemmas.List.{length-append, length-take, drop-drop, drop_at, drop_all, take_at, take_all, take-append-drop}
use Rattle.std.proofs.lemmas.Bool.{cases_lt}
use Rattle.header_bits.specs.Bits.{bits_of, bits_of_bytes}
use Rattle.header_bits.proofs.Numbers.{length-bits_of}

pub length-bits_of_bytes : (bytes : List ℕ) → length (bits_of_bytes bytes) ≡ 8 * length bytes
unfolding bits_of_bytes
length-bits_of_bytes [] = refl
length-bits_of_bytes (b ∷ bytes) =
    length-append (bits_of 8 b) (bits_of_bytes bytes) ∙ omega (arith, length-bits_of 8 b, length-bits_of_bytes bytes)

pub bits_of_bytes-append : (a b : List ℕ) → bits_of_bytes (a ++ b) ≡ bits_of_bytes a ++ bits_of_bytes b
unfolding bits_of_bytes
bits_of_bytes-append [] b = refl
bits_of_bytes-append (x ∷ a) b =
    ap (λ (r : List Bool). bits_of 8 x ++ r) (bits_of_bytes-append a b) ∙ sym (append_assoc (bits_of 8 x) (bits_of_bytes a) (bits_of_bytes b))

-- whole bytes left out
pub bits_of_bytes-drop : (i : ℕ) (bytes : List ℕ) → drop (8 * i) (bits_of_bytes bytes) ≡ bits_of_bytes (drop i bytes)
unfolding bits_of_bytes
bits_of_bytes-drop zero bytes = refl
bits_of_bytes-drop (suc i) [] = drop_all (8 * suc i) [] (omega arith)
bits_of_bytes-drop (suc i) (b ∷ bytes) =
    let e : 8 * suc i ≡ 8 + 8 * i = omega arith in
    ap (λ n. drop n (bits_of 8 b ++ bits_of_bytes bytes)) e
    ∙ sym (drop-drop (8 * i) 8 (bits_of 8 b ++ bits_of_bytes bytes))
    ∙ ap (drop (8 * i)) (drop_at (bits_of 8 b) (bits_of_bytes bytes) 8 (length-bits_of 8 b))
    ∙ bits_of_bytes-drop i bytes

-- the first whole bytes
pub bits_of_bytes-take : (i : ℕ) (bytes : List ℕ) → bits_of_bytes (take i bytes) ≡ take (8 * i) (bits_of_bytes bytes)
bits_of_bytes-take i bytes =
    let whole : bits_of_bytes bytes ≡ bits_of_bytes (take i bytes) ++ bits_of_bytes (drop i bytes) =
    ap bits_of_bytes (sym (take-append-drop i bytes)) ∙ bits_of_bytes-append (take i bytes) (drop i bytes) in
    elim (cases_lt i (length bytes)) [
      | inr all ↦ ap bits_of_bytes (take_all i bytes all) ∙ sym (take_all (8 * i) (bits_of_bytes bytes) (omega (arith, length-bits_of_bytes bytes)))
      | inl short ↦ sym (ap (take (8 * i)) whole ∙ take_at (bits_of_bytes (take i bytes)) (bits_of_bytes (drop i bytes))
          (8 * i) (omega (arith, length-bits_of_bytes (take i bytes), length-take i bytes)))
    ]
