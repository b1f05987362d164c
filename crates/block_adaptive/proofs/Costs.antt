-- The lengths of data sets.
use Rattle.std.proofs.Common.{◌≡◌, ℕ, zero, suc, ◌+◌, ◌*◌, ◌/◌, ◌^◌, ◌<◌, ◌≤◌, true, List, [], ◌∷◌, length, drop, replicate, get_or, refl, ◌∙◌}
use Rattle.std.proofs.Common.{arith, add-one, drop-cons}
use Rattle.std.proofs.lemmas.List.{length-append, length-replicate}
use Rattle.block_adaptive.specs.declared.options.CodeSet.{CodeSet}
use Rattle.block_adaptive.specs.declared.options.Choice.TheVariants.{Uncoded, Second, Split}
use Rattle.header_bits.specs.Bits.{bits_of, fundamental}
use Rattle.block_adaptive.specs.Options.{width, quotient_codes, low_groups, pair_codes, pair_number, identifier, coded, option_text, cost}
use Rattle.header_bits.proofs.Numbers.{length-bits_of}
use Rattle.block_adaptive.proofs.Zeros.{length-fundamental}

pub length-low_groups : (k : ℕ) (vs : List ℕ) → length (low_groups k vs) ≡ k * length vs
unfolding low_groups
length-low_groups k [] = omega arith
length-low_groups k (v ∷ vs) = omega (arith, length-append (bits_of k v) (low_groups k vs), length-bits_of k v, length-low_groups k vs)

pub quotients_cons : (k v : ℕ) (vs : List ℕ) → length (quotient_codes k (v ∷ vs)) ≡ v / 2 ^ k + 1 + length (quotient_codes k vs)
unfolding quotient_codes
quotients_cons k v vs = omega (arith, length-append (fundamental (v / 2 ^ k)) (quotient_codes k vs), length-fundamental (v / 2 ^ k))

pub quotients_more : (k : ℕ) (vs : List ℕ) (i total whole : ℕ) → i < length vs → total + length (quotient_codes k (drop i vs)) ≡ whole
    → total + (get_or vs i 0 / 2 ^ k + 1) + length (quotient_codes k (drop (i + 1) vs)) ≡ whole
quotients_more k vs i total whole lt h = rw (add-one i) (omega (arith, quotients_cons k (get_or vs i 0) (drop (suc i) vs), rw (drop-cons vs i 0) at h))

drop_past : (vs : List ℕ) (i : ℕ) → length vs ≤ i → drop i vs ≡ []
drop_past [] zero h = refl
drop_past [] (suc i) h = refl
drop_past (v ∷ vs) zero h = absurd (omega arith)
drop_past (v ∷ vs) (suc i) h = drop_past vs i (omega arith)

pub quotients_done : (k : ℕ) (vs : List ℕ) (i total whole : ℕ) → length vs ≤ i → total + length (quotient_codes k (drop i vs)) ≡ whole → total ≡ whole
unfolding quotient_codes
quotients_done k vs i total whole le h = omega (arith, rw (drop_past vs i le) at h)

pub pairs_more : (a b : ℕ) (vs : List ℕ) → length (pair_codes (a ∷ b ∷ vs)) ≡ pair_number a b + 1 + length (pair_codes vs)
unfolding pair_codes
pairs_more a b vs = omega (arith, length-append (fundamental (pair_number a b)) (pair_codes vs), length-fundamental (pair_number a b))

pub uncoded_cost : (s : CodeSet) (vs : List ℕ) → cost s Uncoded vs ≡ width s + s.bits * length vs
unfolding option_text identifier coded
uncoded_cost s vs = length-append (replicate (width s) true) _ ∙ rw (length-replicate _ true, length-low_groups _ _) refl

pub second_cost : (s : CodeSet) (vs : List ℕ) → cost s Second vs ≡ width s + 1 + length (pair_codes vs)
unfolding option_text identifier coded
second_cost s vs = grind arith

pub split_cost : (s : CodeSet) (k : ℕ) (vs : List ℕ) → cost s (Split k) vs ≡ width s + length (quotient_codes k vs) + k * length vs
unfolding option_text identifier coded
split_cost s k vs = grind (arith, length-append, length-bits_of, length-low_groups)

pub pairs_step : (a b total whole : ℕ) (left middle rest : List ℕ) → left ≡ a ∷ middle → middle ≡ b ∷ rest → total + length (pair_codes left) ≡ whole
    → total + (pair_number a b + 1) + length (pair_codes rest) ≡ whole
pairs_step a b total whole left middle rest d e h = omega (arith, pairs_more a b rest, rw (d, e) at h)

pub pairs_last : (a total whole : ℕ) (left rest : List ℕ) → left ≡ a ∷ rest → length rest ≡ 0 → total + length (pair_codes left) ≡ whole
    → total + (pair_number a 0 + 1) ≡ whole
unfolding pair_codes
pairs_last a total whole left [] d e h = omega (arith, length-fundamental (pair_number a 0), rw d at h)
pairs_last a total whole left (b ∷ rest) d e h = absurd (omega arith)

pub pairs_end : (total whole : ℕ) (left : List ℕ) → length left ≡ 0 → total + length (pair_codes left) ≡ whole → total ≡ whole
unfolding pair_codes
pairs_end total whole [] e h = omega (arith, h)
pairs_end total whole (a ∷ left) e h = absurd (omega arith)

-- ---- a value has a bit at least

pub quotients_least : (k : ℕ) (vs : List ℕ) → length vs ≤ length (quotient_codes k vs)
unfolding quotient_codes
quotients_least k [] = omega arith
quotients_least k (v ∷ vs) = omega (arith, quotients_cons k v vs, quotients_least k vs)
