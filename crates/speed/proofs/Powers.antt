-- Powers of two that a shift makes.
use Rattle.std.proofs.Common.{◌≡◌, ◌+◌, ◌*◌, ◌%◌, ◌<◌, ◌≤◌, ◌^◌, ◌∷◌, ◌++◌, [], ℕ, List, length, map, take, get_or, ap, ◌∙◌, arith}
use Rattle.std.proofs.lemmas.Nat.{pow_pos, mod_below}
use Rattle.std.proofs.lemmas.List.{map-append, take_more}
use Rattle.std.proofs.Math.Pow.{pow_mono}

pub power_is : (bits : ℕ) → bits ≤ 16 → 1 * 2 ^ bits % 4294967296 ≡ 2 ^ bits
power_is bits h =
    let most : 2 ^ bits ≤ 2 ^ 16 = pow_mono h in
    omega (arith, most)

-- what is left by such a power has at most 16 bits
pub rest_fits : (number bits : ℕ) → bits ≤ 16 → number % (1 * 2 ^ bits % 4294967296) < 65536
rest_fits number bits h =
    let some : 0 < 2 ^ bits = pow_pos bits in
    let most : 2 ^ bits ≤ 2 ^ 16 = pow_mono h in
    rw (power_is bits h) (let lt : number % 2 ^ bits < 2 ^ bits = mod_below number (2 ^ bits) some in omega (arith, lt, most))

-- the values of a function at one more of the numbers
pub mapped_front : (f : ℕ → ℕ) (numbers : List ℕ) (n : ℕ) → n < length numbers
    → map f (take (n + 1) numbers) ≡ map f (take n numbers) ++ f (get_or numbers n 0) ∷ []
mapped_front f numbers n lt = ap (map f) (take_more numbers n 0 lt) ∙ map-append f (take n numbers) (get_or numbers n 0 ∷ [])
