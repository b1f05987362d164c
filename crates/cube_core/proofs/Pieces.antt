-- Pieces of a row, one sample after another.
use Rattle.std.proofs.Common.{◌≡◌, ◌≢◌, ◌⊎◌, ◌+◌, ◌*◌, ◌<◌, ◌≤◌, ℕ, List, length, get_or}
use Rattle.std.proofs.Common.{set, arith, inl, inr}
use Rattle.std.proofs.lemmas.List.{get_or-set_same, get_or-set_other}
use Rattle.std.proofs.lemmas.Bool.{cases_eq}

-- one more item of a piece that begins at a place of a list
pub item_more : (P : ℕ → ℕ → Type 0) (hs : List ℕ) (at x offset : ℕ) → at + x < length hs → P x offset → ((j : ℕ) → j < x → P j (get_or hs (at + j) 0))
    → (j : ℕ) → j < x + 1 → P j (get_or (set hs (at + x) offset) (at + j) 0)
item_more P hs at x offset within here before j lt =
    elim (cases_eq j x) [
      | inl e ↦ rw (e, get_or-set_same hs (at + x) offset 0 within) here
      | inr other ↦ let apart : at + j ≢ at + x = omega arith in rw (get_or-set_other hs (at + x) (at + j) offset 0 apart) (before j (omega arith))
    ]

-- what stands outside the piece stays
pub others_stay : (hs first : List ℕ) (at x offset : ℕ) → ((j : ℕ) → (j < at) ⊎ (at + x ≤ j) → get_or hs j 0 ≡ get_or first j 0) → (j : ℕ)
    → (j < at) ⊎ (at + (x + 1) ≤ j) → get_or (set hs (at + x) offset) j 0 ≡ get_or first j 0
others_stay hs first at x offset before j (inl low) = let apart : j ≢ at + x = omega arith in
    rw (get_or-set_other hs (at + x) j offset 0 apart) (before j (inl low))
others_stay hs first at x offset before j (inr high) = let apart : j ≢ at + x = omega arith in
    rw (get_or-set_other hs (at + x) j offset 0 apart) (before j (inr (omega arith)))

-- the items of the longer piece are those of the shorter one and the last
pub all_but_last : (hs : List ℕ) (at x offset limit : ℕ) → at + x < length hs → ((j : ℕ) → j < x + 1 → get_or (set hs (at + x) offset) (at + j) 0 < limit)
    → (offset < limit) × ((j : ℕ) → j < x → get_or hs (at + j) 0 < limit)
all_but_last hs at x offset limit within all = (rw (get_or-set_same hs (at + x) offset 0 within) at (all x (omega arith)), earlier)
  where
    earlier : (j : ℕ) → j < x → get_or hs (at + j) 0 < limit
    earlier j lt = let apart : at + j ≢ at + x = omega arith in rw (get_or-set_other hs (at + x) (at + j) offset 0 apart) at (all j (omega arith))

-- the numbers of so many bytes are fewer than the bytes
pub fewer_numbers : (i width length_is : ℕ) → (width ≡ 1) ⊎ (width ≡ 2) → (i + 1) * width ≤ length_is → i < length_is
fewer_numbers i width length_is (inl one) there = let t : (i + 1) * 1 ≤ length_is = rw one at there in omega arith
fewer_numbers i width length_is (inr two) there = let t : (i + 1) * 2 ≤ length_is = rw two at there in omega arith
