-- FS codes and groups of bits are read as the values that they spell.
use Rattle.std.proofs.Common.{◌≡◌, ℕ, ◌-◌, ◌/◌, ◌^◌, ◌<◌, ◌≤◌, Bool, List, [], ◌∷◌, ◌++◌, length, map, Ok, refl, append_assoc, arith}
use Rattle.std.specs.List.{AllByRecursion}
use Rattle.std.proofs.lemmas.Nat.{le-div}
use Rattle.header_bits.specs.Bits.{bits_of, fundamental}
use Rattle.block_adaptive.specs.Options.{quotient_codes, low_groups}
use Rattle.block_adaptive.specs.Reading.{Site, fundamental_at, quotients_at, low_at, lows_at, split_at, words_at}
use Rattle.header_bits.proofs.Fronts.{zeros_again}
use Rattle.header_bits.proofs.Reading.{number_again, number_low}
use Rattle.header_bits.proofs.Items.{all_weaker}

pub fundamental_again : (site : Site) (most m : ℕ) (rest : List Bool) → m ≤ most → fundamental_at site most (fundamental m ++ rest) ≡ Ok (m, rest)
unfolding fundamental_at
fundamental_again site most m rest le = grind (arith, zeros_again)

pub quotients_again : (site : Site) (most k : ℕ) (vs : List ℕ) (rest : List Bool) → AllByRecursion (λ v. v / 2 ^ k ≤ most) vs
    → quotients_at site most (length vs) (quotient_codes k vs ++ rest) ≡ Ok (map (λ v. v / 2 ^ k) vs, rest)
unfolding quotients_at quotient_codes
quotients_again site most k [] rest h = refl
quotients_again site most k (v ∷ vs) rest h = rw (append_assoc, fundamental_again _ _ (v / 2 ^ k) _ h.0, quotients_again site most k vs rest h.1) refl

pub low_again : (site : Site) (k most v : ℕ) (rest : List Bool) → v ≤ most → low_at site k most (v / 2 ^ k) (bits_of k v ++ rest) ≡ Ok (v, rest)
unfolding low_at
low_again site k most v rest le = grind (arith, number_low)

pub lows_again : (site : Site) (k most : ℕ) (vs : List ℕ) (rest : List Bool) → AllByRecursion (λ v. v ≤ most) vs
    → lows_at site k most (map (λ v. v / 2 ^ k) vs) (low_groups k vs ++ rest) ≡ Ok (vs, rest)
unfolding lows_at low_groups
lows_again site k most [] rest h = refl
lows_again site k most (v ∷ vs) rest h = rw (append_assoc, low_again _ _ _ v _ h.0, lows_again site k most vs rest h.1) refl

pub words_again : (site : Site) (depth : ℕ) (vs : List ℕ) (rest : List Bool) → AllByRecursion (λ v. v < 2 ^ depth) vs
    → words_at site.count depth (length vs) (low_groups depth vs ++ rest) ≡ Ok (vs, rest)
unfolding words_at low_groups
words_again site depth [] rest h = refl
words_again site depth (v ∷ vs) rest h = rw (append_assoc, number_again _ _ v _ h.0, words_again site depth vs rest h.1) refl

pub split_again : (site : Site) (depth k : ℕ) (vs : List ℕ) (rest : List Bool) → AllByRecursion (λ v. v < 2 ^ depth) vs
    → split_at site k (2 ^ depth - 1) (length vs) ((quotient_codes k vs ++ low_groups k vs) ++ rest) ≡ Ok (vs, rest)
unfolding split_at
split_again site depth k vs rest h = grind (arith, all_weaker, append_assoc, le-div, lows_again, quotients_again)
