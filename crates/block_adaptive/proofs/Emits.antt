-- Writing coded data sets, part after part.
use Rattle.std.proofs.lemmas.Grind.{common_steps}
use Rattle.std.proofs.Math.Pow.{pow_mono}
use Rattle.block_adaptive.proofs.WordTexts.{words_start, words_few, words_joined, words_end, words_below}
use Rattle.std.proofs.Common.{◌≡◌, ℕ, ◌+◌, ◌-◌, ◌*◌, ◌/◌, ◌%◌, ◌^◌, ◌<◌, ◌≤◌, List, [], ◌++◌, length, drop, get_or, refl, sym, rules}
use Rattle.std.proofs.Common.{ap, ◌∙◌, arith, add-one, drop-cons}
use Rattle.std.proofs.lemmas.List.{length-append, drop_all}
use Rattle.header_bits.specs.Bits.{bits_of, fundamental}
use Rattle.header_bits.proofs.Numbers.{length-bits_of, bits_of_zero, bits_of_one, bits_of-fundamental, bits_of-mod}
use Rattle.header_bits.proofs.Fronts.{bits_of_ones}
use Rattle.block_adaptive.specs.declared.options.CodeSet.{CodeSet}
use Rattle.block_adaptive.specs.declared.options.Choice.TheVariants.{Uncoded, Second, Split}
use Rattle.block_adaptive.specs.Options.{width, zero_identifier, identifier, quotient_codes, low_groups, pair_codes, pair_number}
use Rattle.block_adaptive.specs.DataSets.{run_text}
use Rattle.block_adaptive.proofs.Zeros.{length-fundamental}

-- ---- parts of a block

pub quotient_next : (k i : ℕ) (block : List ℕ) → i < length block → quotient_codes k (drop i block) ≡ fundamental (get_or block i 0 / 2 ^ k) ++ quotient_codes k
    (drop (i + 1) block)
unfolding quotient_codes
quotient_next k i block lt = rw (add-one, drop-cons block i 0 lt) refl

pub low_next : (k i : ℕ) (block : List ℕ) → i < length block → low_groups k (drop i block) ≡ bits_of k (get_or block i 0) ++ low_groups k (drop (i + 1) block)
unfolding low_groups
low_next k i block lt = rw (add-one, drop-cons block i 0 lt) refl

pub pair_next : (i : ℕ) (block : List ℕ) → 2 * i + 1 < length block → pair_codes (drop (2 * i) block)
    ≡ fundamental (pair_number (get_or block (2 * i) 0) (get_or block (2 * i + 1) 0)) ++ pair_codes (drop (2 * (i + 1)) block)
unfolding pair_codes
pair_next i block lt = search (rules, common_steps)

pub quotient_bits : (k i : ℕ) (block : List ℕ) → i < length block → quotient_codes k (drop i block) ≡ bits_of (get_or block i 0 / 2 ^ k + 1) 1 ++ quotient_codes
    k (drop (i + 1) block)
quotient_bits k i block lt = quotient_next _ _ _ lt ∙ ap (λ bs. bs ++ quotient_codes k (drop (i + 1) block)) (sym (bits_of-fundamental _))

pub quotient_end : (k i : ℕ) (block : List ℕ) → length block ≤ i → quotient_codes k (drop i block) ≡ []
unfolding quotient_codes
quotient_end k i block le = rw (drop_all i block le) refl

pub low_end : (k i : ℕ) (block : List ℕ) → length block ≤ i → low_groups k (drop i block) ≡ []
unfolding low_groups
low_end k i block le = rw (drop_all i block le) refl

pub pair_end : (i : ℕ) (block : List ℕ) → length block ≤ i → pair_codes (drop i block) ≡ []
unfolding pair_codes
pair_end i block le = rw (drop_all i block le) refl

-- ---- identifiers

pub identifier_uncoded : (s : CodeSet) → bits_of (width s) (2 ^ width s - 1) ≡ identifier s Uncoded
unfolding identifier
identifier_uncoded s = bits_of_ones (width s)

pub identifier_second : (s : CodeSet) → bits_of (width s + 1) 1 ≡ identifier s Second
unfolding identifier
identifier_second s = bits_of_one (width s)

pub identifier_split : (s : CodeSet) (k : ℕ) → bits_of (width s) (k + 1) ≡ identifier s (Split k)
unfolding identifier
identifier_split s k = refl

pub identifier_zero : (s : CodeSet) → bits_of (width s + 1) 0 ≡ zero_identifier s
unfolding zero_identifier
identifier_zero s = grind (arith, bits_of_zero)

pub low_next_masked : (k i : ℕ) (block : List ℕ) → i < length block → low_groups k (drop i block) ≡ bits_of k (get_or block i 0 % 2 ^ k) ++ low_groups k
    (drop (i + 1) block)
low_next_masked k i block lt = low_next _ _ _ lt ∙ ap (λ bs. bs ++ low_groups k (drop (i + 1) block)) (sym (bits_of-mod _ _ _ (omega arith)))

-- ---- a run

pub run_text_cost : (s : CodeSet) (n : ℕ) → length (run_text s (fundamental n)) ≡ width s + n + 2
run_text_cost s n =
    omega (arith, length-append (zero_identifier s) (fundamental n), length-fundamental n, ap length (identifier_zero s), length-bits_of (width s + 1) 0)

-- ---- bits gathered in a word

pub one_below : (n : ℕ) → 1 < 2 ^ (n + 1)
one_below n = pow_mono {i = 1} {j = n + 1} (omega arith)

-- what a loop that gathers them takes
pub ruleset word_steps = (common_steps, words_start, words_few, words_joined, words_end, words_below)

pub ruleset low_word_steps = (word_steps, low_next_masked, low_end)

pub ruleset quotient_word_steps = (word_steps, quotient_bits, quotient_end, one_below)
