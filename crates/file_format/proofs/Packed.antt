-- Bytes are packed from their bits.
use Rattle.std.proofs.Common.{◌≡◌, ◌/◌, ◌<◌, ℕ, suc, List, [], ◌∷◌, length, get_or, refl, sym, arith}
use Rattle.std.proofs.lemmas.List.{take_at, drop_at}
use Rattle.std.proofs.Math.Nat.{mod-eq_of_lt}
use Rattle.header_bits.specs.Bits.{bits_of_bytes}
use Rattle.header_bits.proofs.Numbers.{length-bits_of, number_of-bits_of}
use Rattle.header_bits.proofs.Bytes.{length-bits_of_bytes}
use Rattle.file_format.specs.File.{packed_from, packed}

packed_again : (bytes : List ℕ) → ((i : ℕ) → get_or bytes i 0 < 256) → packed_from (length bytes) (bits_of_bytes bytes) ≡ bytes
unfolding packed_from bits_of_bytes
packed_again [] small = refl
packed_again (b ∷ bs) small =
    let eight = length-bits_of 8 b in
    rw (take_at, drop_at, number_of-bits_of, mod-eq_of_lt (small 0), packed_again bs (λ i. small (suc i))) refl

-- bytes are packed from their bits
pub packed_is : (bytes : List ℕ) → ((i : ℕ) → get_or bytes i 0 < 256) → bytes ≡ packed (bits_of_bytes bytes)
unfolding packed
packed_is bytes small =
    let long : length (bits_of_bytes bytes) / 8 ≡ length bytes = omega (arith, length-bits_of_bytes bytes) in
    sym (rw long (packed_again bytes small))
