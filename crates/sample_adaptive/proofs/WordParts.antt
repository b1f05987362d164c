-- Code words that are taken apart one after another.
use Rattle.std.proofs.Common.{◌≡◌, ℕ, zero, suc, ◌+◌, ◌-◌, ◌*◌, ◌/◌, ◌%◌, ◌^◌, ◌<◌, ◌≤◌, Bool, List, drop, length, set, refl, sym, ap, subst, ◌∙◌, arith}
use Rattle.std.specs.Int.{rotate_left, w64}
use Rattle.std.specs.Int.Count.{count_leading_zeros}
use Rattle.std.proofs.lemmas.List.{get_or-set_same, get_or-set_other}
use Rattle.std.proofs.lemmas.Nat.{and_mask, leading_top}
use Rattle.std.proofs.Math.Pow.{mod-mod-pow}
use Rattle.header_bits.specs.Windows.{IsAhead}
use Rattle.lanes.specs.Lanes.{number}
use Rattle.sample_adaptive.specs.declared.word_parts.WordParts.{WordParts}
use Rattle.sample_adaptive.specs.WordParts.{InSteps, IsPartNext, IsPlainNext}
use Rattle.sample_adaptive.proofs.ShortWords.{low_rotated, short_ahead}

-- ---- steps

pub no_steps : (step : ℕ → List Bool → List Bool → Type 0) (bits : List Bool) → InSteps step 0 bits bits
unfolding InSteps
no_steps step bits = refl

pub one_step_more : (step : ℕ → List Bool → List Bool → Type 0) (n : ℕ) (bits mid left : List Bool) → InSteps step n bits mid → step n mid left
    → InSteps step (n + 1) bits left
unfolding InSteps
one_step_more step n bits mid left before here = let e : n + 1 ≡ suc n = omega arith in rw e (mid, before, here)

pub other_steps : (step other : ℕ → List Bool → List Bool → Type 0) (n : ℕ) (bits left : List Bool)
    → ((j : ℕ) → j < n → (from to : List Bool) → step j from to → other j from to) → InSteps step n bits left → InSteps other n bits left
unfolding InSteps
other_steps step other zero bits left each h = h
other_steps step other (suc n) bits left each h =
    (h.0, other_steps step other n bits h.0 (λ j lt. each j (omega (arith, lt))) h.1, each n (omega arith) h.0 left h.2)

-- ---- a word

-- 32 bits that end with a word's low bits
low_bits : (word length k : ℕ) → 1 ≤ length → length < 64 → k ≤ length → k ≤ 32 → rotate_left w64 word length % 2 ^ 32 % 2 ^ k ≡ word / 2 ^ (64 - length) % 2 ^ k
low_bits word length k some few le small =
    let turned : ℕ = rotate_left w64 word length in
    let whole : 32 - k + k ≡ 32 = omega (arith, small) in
    ap (λ n. turned % 2 ^ n % 2 ^ k) (sym whole) ∙ mod-mod-pow turned (32 - k) k ∙ sym (and_mask turned k) ∙ low_rotated word length k some few le

pub plain_next : (left : List Bool) (most word zeros ending k : ℕ) → word < 2 ^ 64 → most ≤ 57 → IsAhead most left word → zeros ≡ count_leading_zeros 64 word
    → zeros + 1 + k ≤ most → ending ≡ rotate_left w64 word (zeros + 1 + k) % 2 ^ 32 → k ≤ 14 → IsPlainNext k zeros ending left (drop (zeros + 1 + k) left)
plain_next left most word zeros ending k below few ahead is within ends small = λ count index c code same lt fits.
    let long : zeros + 1 + k ≡ zeros + 1 + c.k = omega (arith, same) in
    let low : ending % 2 ^ c.k ≡ word / 2 ^ (64 - (zeros + 1 + c.k)) % 2 ^ c.k =
    ap (λ n. n % 2 ^ c.k) (ends ∙ ap (λ n. rotate_left w64 word n % 2 ^ 32) long)
    ∙ low_bits word (zeros + 1 + c.k) c.k (omega arith) (omega (arith, long, within, few)) (omega arith) (omega (arith, same, small)) in
    let whole : zeros * 2 ^ c.k + ending % 2 ^ c.k < 2 ^ c.bits = subst (λ n. zeros * 2 ^ n + ending % 2 ^ n < 2 ^ c.bits) (sym same) fits in
    let read = short_ahead count index c most left word zeros (ending % 2 ^ c.k) code below (omega (arith, few)) ahead is lt (omega (arith, long, within)) low whole in
    rw (long, ← same) read

-- the place of the highest one tells as much as the zeros before it
pub place_of : (word : ℕ) → 1 ≤ word → word < 2 ^ 64 → count_leading_zeros 64 word ≤ 63
place_of word some below = let top = leading_top 64 word (omega (arith, some)) below in omega (arith, top.1)

-- ---- parts of words, in lanes

-- the parts with those of one word more
abbrev pub with_part : WordParts → ℕ → ℕ → ℕ → WordParts
with_part parts j place ending = record { places = set parts.places j place; endings = set parts.endings j ending }

pub one_part_more : (ends : List ℕ) (parts : WordParts) (j place ending : ℕ) (bits mid left : List Bool) → j < length parts.places → j < length parts.endings
    → InSteps (IsPartNext ends parts) j bits mid → IsPlainNext (number ends j - 64) (63 - place) ending mid left
    → InSteps (IsPartNext ends (with_part parts j place ending)) (j + 1) bits left
one_part_more ends parts j place ending bits mid left inside also before here =
    one_step_more (IsPartNext ends (with_part parts j place ending)) j bits mid left
    (other_steps (IsPartNext ends parts) (IsPartNext ends (with_part parts j place ending)) j bits mid
    (λ k lt from to was.
    let other : k ≡ j → ⊥ = λ e. omega (arith, e, lt) in
    rw (get_or-set_other parts.places j k place 0 other, get_or-set_other parts.endings j k ending 0 other) was)
    before)
    (rw (get_or-set_same parts.places j place 0 inside, get_or-set_same parts.endings j ending 0 also) here)
