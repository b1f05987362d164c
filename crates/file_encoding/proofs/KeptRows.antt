-- Rows of as many columns that stand one after another in a room, and are filled piece by piece.
use Rattle.std.proofs.Common.{◌≡◌, ◌+◌, ◌-◌, ◌*◌, ◌<◌, ◌≤◌, ℕ, suc, List, [], ◌∷◌, ◌++◌, length, take, drop, get_or, refl, sym, ap, ap₂, ◌∙◌, take-add, arith, get_or-drop, length-drop, Bool, true, inl, inr}
use Rattle.std.specs.List.{flat_map}
use Rattle.std.proofs.lemmas.Bool.{cases_lt}
use Rattle.std.proofs.lemmas.List.{drop-take, drop-drop, drop-append-le, get_or-take, length-take-le}
use Rattle.std.proofs.lemmas.Nat.{mul-le}
use Rattle.std.proofs.lemmas.Slice.{take-put_mid, take-put_mid_below, drop-put_mid}
use borrow.Rule.Slice.PartMut.{put_mid}
use Rattle.file_encoding.specs.Pieces.{row_start}
use Rattle.file_encoding.specs.Takings.{AreTakings}
use Rattle.file_encoding.proofs.Sending.{Steps, last_piece, stepped}

-- a piece is written in row i, after x numbers
module _ (columns i x n many : ℕ) (room numbers : List ℕ) (inside : x + n ≤ columns) (fits : i * columns + x ≤ length room) (long : length numbers ≡ n)
    (size : many ≡ n) where
  -- the row goes on with it
  pub row_more : row_start columns i (x + n) (put_mid (i * columns + x) many room numbers) ≡ row_start columns i x room ++ numbers
  row_more =
      let start = i * columns in
      let end : start + (x + n) ≡ start + x + length numbers = omega (arith, long) in
      let before : start ≤ length (take (start + x) room) = omega (arith, length-take-le (start + x) room fits) in
      sym (drop-take start (x + n) (put_mid (start + x) many room numbers))
      ∙ ap (λ ns. drop start ns) (take-put_mid (start + x) many room numbers (start + (x + n)) end fits)
      ∙ drop-append-le start (take (start + x) room) numbers before ∙ ap (λ ns. ns ++ numbers) (drop-take start x room)

  -- rows before it stay as they were
  pub row_before : (k : ℕ) → k < i → row_start columns k (x + n) (put_mid (i * columns + x) many room numbers) ≡ row_start columns k (x + n) room
  row_before k lt =
      let start = k * columns in
      let low : suc k * columns ≤ i * columns = mul-le (suc k) columns i columns lt (omega arith) in
      sym (drop-take start (x + n) (put_mid (i * columns + x) many room numbers))
      ∙ ap (λ ns. drop start ns)
      (take-put_mid_below (i * columns + x) many room numbers (start + (x + n)) (omega (arith, low, inside)) fits)
      ∙ drop-take start (x + n) room

  -- and so do rows after it
  pub rows_after : (k : ℕ) → i < k → drop (k * columns) (put_mid (i * columns + x) many room numbers) ≡ drop (k * columns) room
  rows_after k lt =
      let high : suc i * columns ≤ k * columns = mul-le (suc i) columns k columns lt (omega arith) in
      drop-put_mid (i * columns + x) many room numbers (k * columns) (omega (arith, high, inside, size)) fits (long ∙ sym size)

-- ---- numbers that stay as they were

-- those before and behind what is written
pub put_outside : (a n : ℕ) (room numbers : List ℕ) (j : ℕ) → a ≤ length room → length numbers ≡ n → (a ≤ j → a + n ≤ j)
    → get_or (put_mid a n room numbers) j 0 ≡ get_or room j 0
put_outside a n room numbers j fits long out = elim (cases_lt j a) [
  | inl before ↦
      sym (get_or-take (suc j) (put_mid a n room numbers) j 0 (omega arith))
      ∙ ap (λ ns. get_or ns j 0) (take-put_mid_below a n room numbers (suc j) (omega (arith, before)) fits) ∙ get_or-take (suc j) room j 0 (omega arith)
  | inr past ↦
      let same : j + 0 ≡ j = omega arith in
      ap (λ i. get_or (put_mid a n room numbers) i 0) (sym same) ∙ sym (get_or-drop j (put_mid a n room numbers) 0 0)
      ∙ ap (λ ns. get_or ns 0 0) (drop-put_mid a n room numbers j (out past) fits long) ∙ get_or-drop j room 0 0 ∙ ap (λ i. get_or room i 0) same
]

-- a piece that is written in stretch i comes before the later numbers of each stretch, or behind them
pub past_piece : (stretch i k first n j : ℕ) → first + n ≤ j → j < stretch → i * stretch + first ≤ k * stretch + j → i * stretch + first + n ≤ k * stretch + j
past_piece stretch i k first n j after inside le = elim (cases_lt k i) [
  | inl before ↦
      let up : suc k * stretch ≤ i * stretch = mul-le (suc k) stretch i stretch before (omega arith) in
      let next : suc k * stretch ≡ k * stretch + stretch = grind arith in
      absurd (omega (arith, up, next, inside, le))
  | inr past ↦
      let up : i * stretch ≤ k * stretch = mul-le i stretch k stretch past (omega arith) in
      omega (arith, up, after)
]

-- all rows, one after another
pub all_rows : (f : ℕ → List ℕ) (columns : ℕ) (room zs : List ℕ) → ((k : ℕ) → k < length zs → row_start columns k columns room ≡ f (get_or zs k 0))
    → take (length zs * columns) room ≡ flat_map f zs
all_rows f columns room [] h = let none : 0 * columns ≡ 0 = grind arith in ap (λ k. take k room) none
all_rows f columns room (z ∷ zs) h =
    let size : suc (length zs) * columns ≡ columns + length zs * columns = grind arith in
    let later = all_rows f columns (drop columns room) zs (λ k lt.
    let place : columns + k * columns ≡ suc k * columns = grind arith in
    ap (λ ns. take columns ns) (drop-drop (k * columns) columns room ∙ ap (λ i. drop i room) place) ∙ h (suc k) (omega (arith, lt))) in
    let start : 0 * columns ≡ 0 = grind arith in
    let first : take columns room ≡ f z = rw start at (h 0 (omega arith)) in
    ap (λ k. take k room) size ∙ take-add columns (length zs * columns) room ∙ ap₂ (λ a b. a ++ b) first later

-- the first of some numbers, and the others
pub first_and_rest : (f : ℕ → List ℕ) (zs : List ℕ) → 1 ≤ length zs → flat_map f zs ≡ f (get_or zs 0 0) ++ flat_map f (drop 1 zs)
first_and_rest f [] some = absurd (omega (arith, some))
first_and_rest f (z ∷ zs) some = refl

-- all rows but the first, where there is a row for each of some bands but the first
pub kept_rows : (f : ℕ → List ℕ) (columns many : ℕ) (room zs : List ℕ) → many ≡ length zs
    → ((k : ℕ) → k + 1 < length zs → row_start columns k columns room ≡ f (get_or zs (k + 1) 0)) → take ((many - 1) * columns) room ≡ flat_map f (drop 1 zs)
kept_rows f columns many room zs size each =
    let long : many - 1 ≡ length (drop 1 zs) = omega (arith, size, length-drop 1 zs) in
    ap (λ n. take (n * columns) room) long ∙ all_rows f columns room (drop 1 zs) (λ k lt.
    let within : k + 1 < length zs = omega (arith, lt, length-drop 1 zs) in
    let place : 1 + k ≡ k + 1 = omega arith in
    each k within ∙ ap f (sym (get_or-drop 1 zs k 0 ∙ ap (λ i. get_or zs i 0) place)))

-- once the first band's numbers were sent, those that were kept of the others come next
module _ {S : Type 0} {may : S → List ℕ → Type 0} {takes : S → S → Bool → List ℕ → Type 0} (laws : AreTakings may takes) (f : ℕ → List ℕ) (zs : List ℕ)
    (some : 1 ≤ length zs) {old : S} (all : may old (flat_map f zs)) where
  pub others_sent : {mid : S} {numbers : List ℕ} → takes old mid true (f (get_or zs 0 0)) → numbers ≡ flat_map f (drop 1 zs)
      → Steps may takes old mid (flat_map f zs) numbers (flat_map f zs)
  others_sent sent same = stepped laws sent all (rw (first_and_rest f zs some) (last_piece (f (get_or zs 0 0)) (flat_map f (drop 1 zs)))) same
