-- Fundamental sequences, a number of zeros at a time.
use Rattle.std.proofs.Common.{◌≡◌, ℕ, zero, suc, ◌+◌, ◌≤◌, false, List, [], ◌++◌, length, replicate, refl, ◌∙◌, arith, ◌-◌, Bool, sym, ap}
use Rattle.std.proofs.lemmas.List.{append-nil}
use Rattle.header_bits.specs.Bits.{bits_of, fundamental}
use Rattle.header_bits.proofs.Numbers.{bits_of_zero, bits_of-fundamental}

pub length-fundamental : (m : ℕ) → length (fundamental m) ≡ m + 1
unfolding fundamental
length-fundamental zero = refl
length-fundamental (suc m) = omega (arith, length-fundamental m)

pub zeros_front : (n m : ℕ) → fundamental (n + m) ≡ replicate n false ++ fundamental m
unfolding fundamental
zeros_front zero m = (let e : 0 + m ≡ m = omega arith in rw e refl)
zeros_front (suc n) m = (let e : suc n + m ≡ suc (n + m) = omega arith in rw (e, zeros_front n m) refl)

pub sixty_four_more : (left : ℕ) → 64 ≤ left → fundamental left ≡ bits_of 64 0 ++ fundamental (left - 64)
sixty_four_more left le =
    let e : 64 + (left - 64) ≡ left = omega arith in
    ap fundamental (sym e) ∙ zeros_front 64 (left - 64) ∙ ap (λ (bs : List Bool). bs ++ fundamental (left - 64)) (sym (bits_of_zero 64))

pub last_zeros : (left : ℕ) → fundamental left ≡ bits_of (left + 1) 1 ++ []
last_zeros left = sym (append-nil (bits_of (left + 1) 1) ∙ bits_of-fundamental left)
