-- Lists of four, parts of lists, and what a turned square of four has at a place.
use Rattle.std.proofs.Common.{ℕ, zero, suc, ◌+◌, ◌*◌, ◌<◌, ◌≤◌, ℤ, pos, List, [], ◌∷◌, map, length, take, drop, set, get_or, ◌≡◌, refl, sym, ap, ◌∙◌, arith}
use Rattle.std.specs.Simd.{first_chunks}
use Rattle.std.proofs.lemmas.List.{drop-drop, get_or-map}
use lib.Lanes.{chunk, put_chunk}
use Rattle.lanes.proofs.Turning.{put_nothing, one_more}
use Rattle.lanes.specs.Lanes.{lane, place}

-- what holds of each of four
pub four : (P : ℕ → Type 0) → P 0 → P 1 → P 2 → P 3 → (k : ℕ) → k < 4 → P k
four P a b c d zero l = a
four P a b c d (suc zero) l = b
four P a b c d (suc (suc zero)) l = c
four P a b c d (suc (suc (suc zero))) l = d
four P a b c d (suc (suc (suc (suc k)))) l = absurd (omega arith)

pub chunk_of_four : (n i : ℕ) (xs : List ℤ) → i < n → get_or (first_chunks 4 n xs) i [] ≡ chunk (4 * i) 4 xs
chunk_of_four zero i xs h = absurd (omega arith)
chunk_of_four (suc n) zero xs h = refl
chunk_of_four (suc n) (suc i) xs h =
    let e : 4 + 4 * i ≡ 4 * suc i = omega arith in
    chunk_of_four n i (drop 4 xs) (omega arith) ∙ ap (take 4) (drop-drop (4 * i) 4 xs ∙ ap (λ m. drop m xs) e)

pub put_rows_of_four : {X : Type 0} (i : ℕ) (xs : List X) (a b c d : X) → i + 4 ≤ length xs
    → set (set (set (set xs i a) (i + 1) b) (i + 2) c) (i + 3) d ≡ put_chunk i xs (a ∷ b ∷ c ∷ d ∷ [])
put_rows_of_four i xs a b c d room =
    let p1 = ap (λ l. set l i a) (sym (put_nothing i xs)) ∙ one_more i xs [] a i (omega arith) (omega arith) in
    let p2 = ap (λ l. set l (i + 1) b) p1 ∙ one_more i xs (a ∷ []) b (i + 1) refl (omega arith) in
    let p3 = ap (λ l. set l (i + 2) c) p2 ∙ one_more i xs (a ∷ b ∷ []) c (i + 2) refl (omega arith) in
    ap (λ l. set l (i + 3) d) p3 ∙ one_more i xs (a ∷ b ∷ c ∷ []) d (i + 3) refl (omega arith)

-- place j of each of four rows
pub each_of_four : (q : ℕ → ℤ) (j : ℕ) (a0 a1 a2 a3 : List ℤ) → lane a0 j ≡ q 0 → lane a1 j ≡ q 1 → lane a2 j ≡ q 2 → lane a3 j ≡ q 3
    → (b : ℕ) → b < 4 → place (a0 ∷ a1 ∷ a2 ∷ a3 ∷ []) b j ≡ q b
each_of_four q j a0 a1 a2 a3 = four (λ b. place (a0 ∷ a1 ∷ a2 ∷ a3 ∷ []) b j ≡ q b)

-- row i has number i of each row
abbrev pub turned_square : List (List ℤ) → List (List ℤ)
turned_square rows = map (λ i. map (λ row. lane row i) rows) (0 ∷ 1 ∷ 2 ∷ 3 ∷ [])

pub turned_square_place : (rows : List (List ℤ)) (i b : ℕ) → length rows ≡ 4 → i < 4 → b < 4 → place (turned_square rows) i b ≡ place rows b i
turned_square_place rows i b l g h =
    ap (λ row. lane row b) (get_or-map (λ j. map (λ row. lane row j) rows) (0 ∷ 1 ∷ 2 ∷ 3 ∷ []) i 0 [] g
    ∙ ap (λ j. map (λ row. lane row j) rows) (four (λ j. get_or (0 ∷ 1 ∷ 2 ∷ 3 ∷ []) j 0 ≡ j) refl refl refl refl i g))
    ∙ get_or-map (λ row. lane row i) rows b [] (pos 0) (omega arith)
