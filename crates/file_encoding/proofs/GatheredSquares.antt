-- Squares of residuals, gathered into columns.
use Rattle.std.proofs.Common.{◌≡◌, ◌+◌, ◌*◌, ◌<◌, ◌≤◌, ℕ, zero, suc, List, [], ◌++◌, inl, inr, length, take, drop, get_or, refl, sym, ap, ap₂, ◌∙◌}
use Rattle.std.proofs.Common.{get_or-drop, append-nil, length-drop, arith}
use Rattle.std.specs.List.{flat_map}
use Rattle.std.proofs.lemmas.Bool.{cases_lt, cases_eq}
use Rattle.std.proofs.lemmas.Grind.{flat_map-append}
use Rattle.std.proofs.lemmas.Nat.{mul-le, row_fits}
use Rattle.std.proofs.lemmas.Slice.{take-put_mid}
use Rattle.std.proofs.lemmas.List.{length-map, get_or-map, take_all, take_more_same}
use Rattle.std.proofs.Math.Seq.{take-add}
use borrow.Rule.Slice.PartMut.{put_mid}
use Rattle.cube_core.specs.Order.{from}
use Rattle.predict_core.specs.Following.{PredictorState}
use Rattle.file_encoding.specs.Pieces.{held_at}
use Rattle.file_encoding.proofs.Sending.{from_split}

-- ---- the rows of a square, one after another

-- rows before row j stand at number b of each column, and the first b numbers of eight columns are as they were
pub record RowsPut (many b j : ℕ) (rows : List (List ℕ)) (old now : List ℕ) : Type 0 where
  pub here : (i k : ℕ) → i < j → k < 8 → get_or now (i * many + (b + k)) 0 ≡ get_or (get_or rows i []) k 0
  pub before : (i k : ℕ) → i < 8 → k < b → get_or now (i * many + k) 0 ≡ get_or old (i * many + k) 0

pub none_put : (many b : ℕ) (rows : List (List ℕ)) (old : List ℕ) → RowsPut many b 0 rows old old
none_put many b rows old = record { here = λ i k lt few. absurd (omega (arith, lt)); before = λ i k lt few. refl }

-- row j is put at index `place`
pub row_put : (many b j place : ℕ) (rows : List (List ℕ)) (old now new : List ℕ) → b + 8 ≤ many → place ≡ j * many + b
    → ((k : ℕ) → k < 8 → get_or new (place + k) 0 ≡ get_or (get_or rows j []) k 0) → ((i : ℕ) → i < place → get_or new i 0 ≡ get_or now i 0)
    → ((i : ℕ) → place + 8 ≤ i → get_or new i 0 ≡ get_or now i 0) → RowsPut many b j rows old now → RowsPut many b (suc j) rows old new
row_put many b j place rows old now new inside is here before after h = record { here = row; before = rest }
  where
    row : (i k : ℕ) → i < suc j → k < 8 → get_or new (i * many + (b + k)) 0 ≡ get_or (get_or rows i []) k 0
    row i k lt few = elim (cases_eq i j) [
      | inl same ↦ let place_is : j * many + (b + k) ≡ place + k = omega (arith, is) in rw (same, place_is) (here k few)
      | inr apart ↦ before (i * many + (b + k)) (omega (arith, is, few, inside, row_fits i many j many (omega (arith, lt, apart)) (omega arith))) ∙ h.here i k (omega (arith, lt, apart)) few
    ]

    rest : (i k : ℕ) → i < 8 → k < b → get_or new (i * many + k) 0 ≡ get_or old (i * many + k) 0
    rest i k lt few = elim (cases_lt j i) [
      | inl above ↦ after (i * many + k) (omega (arith, is, inside, row_fits j many i many above (omega arith))) ∙ h.before i k lt few
      | inr below ↦ before (i * many + k) (omega (arith, is, few, mul-le i many j many below (omega arith))) ∙ h.before i k lt few
    ]

-- ---- columns

-- what a band holds of a place stands in the column of that place
pub held_there : (bands : List PredictorState) (b : PredictorState) (n place : ℕ) → n < length bands → b ≡ get_or bands n b
    → get_or b.piece place 0 ≡ get_or (held_at bands place) n 0
held_there bands b n place lt is = ap (λ (r : PredictorState). get_or r.piece place 0) is ∙ sym (get_or-map (λ r. get_or r.piece place 0) bands n b 0 lt)

-- two lists with the same first numbers
same_first : (xs ys : List ℕ) (n : ℕ) → n ≤ length xs → n ≤ length ys → ((i : ℕ) → i < n → get_or xs i 0 ≡ get_or ys i 0) → take n xs ≡ take n ys
same_first xs ys zero p q h = refl
same_first xs ys (suc n) p q h =
    let next : n + 1 ≡ suc n = omega arith in
    rw next at (take_more_same xs ys n 0 (omega (arith, p)) (omega (arith, q))
    (same_first xs ys n (omega (arith, p)) (omega (arith, q)) (λ i lt. h i (omega (arith, lt)))) (h n (omega arith)))

-- columns that hold the residuals of bands, number by number
pub columns_are : (bands : List PredictorState) (first n many : ℕ) (xs : List ℕ) → length bands ≡ many → n * many ≤ length xs
    → ((i k : ℕ) → i < n → k < many → get_or xs (i * many + k) 0 ≡ get_or (held_at bands (first + i)) k 0)
    → take (n * many) xs ≡ flat_map (λ i. held_at bands i) (from first n)
columns_are bands first zero many xs same fits h = let none : 0 * many ≡ 0 = omega arith in ap (λ m. take m xs) none
columns_are bands first (suc n) many xs same fits h =
    let held = held_at bands (first + n) in
    let long : length held ≡ many = length-map bands (λ b. get_or b.piece (first + n) 0) ∙ same in
    let end : suc n * many ≡ n * many + many = grind arith in
    let room : n * many + many ≤ length xs = omega (arith, fits, end) in
    let column : take many (drop (n * many) xs) ≡ held =
    same_first (drop (n * many) xs) held many (omega (arith, length-drop (n * many) xs, room)) (omega (arith, long))
    (λ k lt. get_or-drop (n * many) xs k 0 ∙ h n k (omega arith) lt) ∙ take_all many held (omega (arith, long)) in
    let one : n + 1 ≡ suc n = omega arith in
    rw end (take-add (n * many) many xs
    ∙ ap₂ (λ a b. a ++ b) (columns_are bands first n many xs same (omega (arith, room)) (λ i k lt. h i k (omega (arith, lt)))) (column ∙ sym (append-nil held))
    ∙ sym (flat_map-append (λ i. held_at bands i) (from first n) (from (first + n) 1)) ∙ ap (flat_map (λ i. held_at bands i)) (sym (from_split first n 1) ∙ ap (from first) one))

-- some more columns after those before them
pub columns_more : (bands : List PredictorState) (first k n many part count : ℕ) (room numbers : List ℕ) → length numbers ≡ n * many → length room ≡ count * many → k + n ≤ count
    → numbers ≡ flat_map (λ i. held_at bands i) (from (first + k) n) → take (k * many) room ≡ flat_map (λ i. held_at bands i) (from first k)
    → take ((k + n) * many) (put_mid (k * many) part room numbers) ≡ flat_map (λ i. held_at bands i) (from first (k + n))
columns_more bands first k n many part count room numbers long all lt is done =
    let end : (k + n) * many ≡ k * many + length numbers = grind (arith, long) in
    let within = mul-le k many count many (omega (arith, lt)) (omega arith) in
    take-put_mid (k * many) part room numbers ((k + n) * many) end (omega (arith, within, all)) ∙ ap₂ (λ a b. a ++ b) done is
    ∙ sym (flat_map-append (λ i. held_at bands i) (from first k) (from (first + k) n)) ∙ ap (flat_map (λ i. held_at bands i)) (sym (from_split first k n))
