-- The low bits of values, four values at a time.
use Rattle.std.proofs.Common.{◌≡◌, ℕ, ◌+◌, ◌-◌, ◌*◌, ◌/◌, ◌%◌, ◌^◌, ◌≤◌, Bool, List, [], ◌∷◌, length, drop, Ok, refl, sym, subst, arith}
use Rattle.std.proofs.Common.{pow_pos}
use Rattle.std.specs.List.{AllByRecursion}
use Rattle.header_bits.specs.Windows.{IsAhead as IsFront}
use Rattle.header_bits.proofs.Ahead.{number_ahead}
use Rattle.block_adaptive.specs.Ahead.{joined_four}
use Rattle.block_adaptive.specs.Reading.{Site, quotients_at, low_at, lows_at, split_at}
use Rattle.block_adaptive.proofs.Codes.{low_again}
use Rattle.block_adaptive.proofs.Takes.{quotients_takes}
use Rattle.header_bits.proofs.Numbers.{no_bits}
use Rattle.block_adaptive.proofs.FourValues.{Within}

-- ---- low bits among the highest bits of a word

low_front : (site : Site) (k most q position next : ℕ) (bits : List Bool) (word : ℕ) → IsFront 57 bits word → position + k ≡ next → next ≤ 57
    → (q + 1) * 2 ^ k ≤ most + 1 → low_at site k most q (drop position bits) ≡ Ok (q * 2 ^ k + word / 2 ^ (64 - next) % 2 ^ k, drop next bits)
unfolding low_at
low_front site k most q position next bits word h e le within = grind (arith, number_ahead, pow_pos)

pub four_read : (site : Site) (k most : ℕ) (old new : List ℕ) (bits : List Bool) (word : ℕ) → IsFront 57 bits word → k ≤ 14 → length old ≡ 4
    → Within k (most + 1) old → ((a b c d : ℕ) → old ≡ a ∷ b ∷ c ∷ d ∷ [] → new ≡ joined_four k word a b c d) → lows_at site k most old bits
    ≡ Ok (new, drop (4 * k) bits)
unfolding lows_at
four_read site k most (a ∷ b ∷ c ∷ d ∷ []) new bits word h le len within are =
    let first : low_at site k most a bits ≡ Ok (a * 2 ^ k + word / 2 ^ (64 - k) % 2 ^ k, drop k bits) = low_front site k most a 0 k bits word h (omega arith)
    (omega arith) within.0 in
    rw (
      are _ _ _ _ refl,
      first,
      low_front site k most b k (2 * k) bits word h (omega arith) (omega arith) within.1.0,
      low_front site k most c (2 * k) (3 * k) bits word h (omega arith) (omega arith) within.1.1.0,
      low_front site k most d (3 * k) (4 * k) bits word h (omega arith) (omega arith) within.1.1.1.0,
    ) refl
four_read site k most old new bits word h le len within are = absurd (omega arith)

-- ---- no low bits

low_none : (site : Site) (most q : ℕ) (bits : List Bool) → q ≤ most → low_at site 0 most q bits ≡ Ok (q, bits)
low_none site most q bits le =
    let again = rw (no_bits q) at (low_again site 0 most q bits le) in
    let whole : q / 2 ^ 0 ≡ q = omega arith in
    subst (λ (n : ℕ). low_at site 0 most n bits ≡ Ok (q, bits)) whole again

all_none : (site : Site) (most : ℕ) (qs : List ℕ) (bits : List Bool) → AllByRecursion (λ q. q ≤ most) qs → lows_at site 0 most qs bits ≡ Ok (qs, bits)
unfolding lows_at
all_none site most [] bits h = refl
all_none site most (q ∷ qs) bits h = rw (low_none site most q bits h.0, all_none site most qs bits h.1) refl

-- quotients are the values where k is 0
pub split_none : (site : Site) (k most n : ℕ) (bits left : List Bool) (qs : List ℕ) → k ≡ 0 → quotients_at site (most / 2 ^ k) n bits ≡ Ok (qs, left)
    → split_at site k most n bits ≡ Ok (qs, left)
unfolding split_at
split_none site k most n bits left qs none read =
    let takes = quotients_takes _ _ _ _ _ read in
    let whole : most / 2 ^ 0 ≡ most = omega arith in
    let small : AllByRecursion (λ q. q ≤ most) qs = rw (none, whole) at takes.all in
    let here : lows_at site k most qs left ≡ Ok (qs, left) = subst (λ (m : ℕ). lows_at site m most qs left ≡ Ok (qs, left)) (sym none)
    (all_none _ _ _ _ small) in
    rw read here
