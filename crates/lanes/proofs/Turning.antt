-- Lists of eight, parts of lists, and what a turned square has at a place.
use Rattle.std.proofs.Common.{ℕ, zero, suc, ◌+◌, ◌*◌, ◌<◌, ◌≤◌, ℤ, List, [], ◌∷◌, ◌++◌, map, length, take, drop, set, get_or, ◌≡◌, refl, sym, ap, ap₂, ◌∙◌, arith}
use Rattle.std.specs.Simd.{first_chunks}
use Rattle.std.proofs.lemmas.List.{drop-drop, get_or-map, length-drop, take_all, drop_all, append-nil}
use lib.Lanes.{chunk, put_chunk}
use Rattle.lanes.proofs.Steps.{eight}
use Rattle.lanes.specs.Lanes.{lane, place}

-- ---- parts of eight

pub chunk_of_eight : (n i : ℕ) (xs : List ℤ) → i < n → get_or (first_chunks 8 n xs) i [] ≡ chunk (8 * i) 8 xs
chunk_of_eight zero i xs h = absurd (omega arith)
chunk_of_eight (suc n) zero xs h = refl
chunk_of_eight (suc n) (suc i) xs h =
    let e : 8 + 8 * i ≡ 8 * suc i = omega arith in
    chunk_of_eight n i (drop 8 xs) (omega arith) ∙ ap (take 8) (drop-drop (8 * i) 8 xs ∙ ap (λ m. drop m xs) e)

-- ---- a run of elements that are written one by one

pub put_nothing : {X : Type 0} (i : ℕ) (xs : List X) → put_chunk i xs [] ≡ xs
put_nothing i [] = refl
put_nothing zero (x ∷ xs) = refl
put_nothing (suc i) (x ∷ xs) = ap (λ l. x ∷ l) (put_nothing i xs)

pub one_more : {X : Type 0} (i : ℕ) (xs ys : List X) (y : X) (j : ℕ) → j ≡ i + length ys → j < length xs → set (put_chunk i xs ys) j y ≡ put_chunk i xs (ys ++ (y ∷ []))
one_more i [] ys y j e h = absurd (omega arith)
one_more zero (x ∷ xs) [] y zero e h = ap (λ l. y ∷ l) (sym (put_nothing zero xs))
one_more zero (x ∷ xs) [] y (suc j) e h = absurd (omega arith)
one_more zero (x ∷ xs) (z ∷ ys) y zero e h = absurd (omega arith)
one_more zero (x ∷ xs) (z ∷ ys) y (suc j) e h = ap (λ l. z ∷ l) (one_more zero xs ys y j (omega arith) (omega arith))
one_more (suc i) (x ∷ xs) ys y zero e h = absurd (omega arith)
one_more (suc i) (x ∷ xs) ys y (suc j) e h = ap (λ l. x ∷ l) (one_more i xs ys y j (omega arith) (omega arith))

pub put_eight : {X : Type 0} (i : ℕ) (xs : List X) (a b c d e f g h : X) → i + 8 ≤ length xs
    → set (set (set (set (set (set (set (set xs i a) (i + 1) b) (i + 2) c) (i + 3) d) (i + 4) e) (i + 5) f) (i + 6) g) (i + 7) h
    ≡ put_chunk i xs (a ∷ b ∷ c ∷ d ∷ e ∷ f ∷ g ∷ h ∷ [])
put_eight i xs a b c d e f g h room =
    let p1 = ap (λ l. set l i a) (sym (put_nothing i xs)) ∙ one_more i xs [] a i (omega arith) (omega arith) in
    let p2 = ap (λ l. set l (i + 1) b) p1 ∙ one_more i xs (a ∷ []) b (i + 1) refl (omega arith) in
    let p3 = ap (λ l. set l (i + 2) c) p2 ∙ one_more i xs (a ∷ b ∷ []) c (i + 2) refl (omega arith) in
    let p4 = ap (λ l. set l (i + 3) d) p3 ∙ one_more i xs (a ∷ b ∷ c ∷ []) d (i + 3) refl (omega arith) in
    let p5 = ap (λ l. set l (i + 4) e) p4 ∙ one_more i xs (a ∷ b ∷ c ∷ d ∷ []) e (i + 4) refl (omega arith) in
    let p6 = ap (λ l. set l (i + 5) f) p5 ∙ one_more i xs (a ∷ b ∷ c ∷ d ∷ e ∷ []) f (i + 5) refl (omega arith) in
    let p7 = ap (λ l. set l (i + 6) g) p6 ∙ one_more i xs (a ∷ b ∷ c ∷ d ∷ e ∷ f ∷ []) g (i + 6) refl (omega arith) in
    ap (λ l. set l (i + 7) h) p7 ∙ one_more i xs (a ∷ b ∷ c ∷ d ∷ e ∷ f ∷ g ∷ []) h (i + 7) refl (omega arith)

put_after : {X : Type 0} (i : ℕ) (xs ys : List X) → i ≤ length xs → put_chunk i xs ys ≡ take i xs ++ put_chunk 0 (drop i xs) ys
put_after zero xs ys h = refl
put_after (suc i) [] ys h = absurd (omega arith)
put_after (suc i) (x ∷ xs) ys h = ap (λ l. x ∷ l) (put_after i xs ys (omega arith))

-- a part that reaches to the end of the list
pub put_in_rest : (i n : ℕ) (xs ys : List ℤ) → length xs ≡ i + n → take i xs ++ (put_chunk 0 (take n (drop i xs)) ys ++ drop n (drop i xs)) ≡ put_chunk i xs ys
put_in_rest i n xs ys e =
    let l : length (drop i xs) ≤ n = omega (arith, length-drop i xs) in
    ap₂ (λ p q. take i xs ++ (put_chunk 0 p ys ++ q)) (take_all n (drop i xs) l) (drop_all n (drop i xs) l)
    ∙ ap (λ p. take i xs ++ p) (append-nil (put_chunk 0 (drop i xs) ys)) ∙ sym (put_after i xs ys (omega arith))

-- eight elements, each of which is written
pub set_all : {X : Type 0} (xs : List X) (a b c d e f g h : X) → length xs ≡ 8
    → set (set (set (set (set (set (set (set xs 0 a) 1 b) 2 c) 3 d) 4 e) 5 f) 6 g) 7 h ≡ a ∷ b ∷ c ∷ d ∷ e ∷ f ∷ g ∷ h ∷ []
set_all (x0 ∷ x1 ∷ x2 ∷ x3 ∷ x4 ∷ x5 ∷ x6 ∷ x7 ∷ []) a b c d e f g h l = refl
set_all [] a b c d e f g h l = absurd (omega arith)
set_all (x0 ∷ []) a b c d e f g h l = absurd (omega arith)
set_all (x0 ∷ x1 ∷ []) a b c d e f g h l = absurd (omega arith)
set_all (x0 ∷ x1 ∷ x2 ∷ []) a b c d e f g h l = absurd (omega arith)
set_all (x0 ∷ x1 ∷ x2 ∷ x3 ∷ []) a b c d e f g h l = absurd (omega arith)
set_all (x0 ∷ x1 ∷ x2 ∷ x3 ∷ x4 ∷ []) a b c d e f g h l = absurd (omega arith)
set_all (x0 ∷ x1 ∷ x2 ∷ x3 ∷ x4 ∷ x5 ∷ []) a b c d e f g h l = absurd (omega arith)
set_all (x0 ∷ x1 ∷ x2 ∷ x3 ∷ x4 ∷ x5 ∷ x6 ∷ []) a b c d e f g h l = absurd (omega arith)
set_all (x0 ∷ x1 ∷ x2 ∷ x3 ∷ x4 ∷ x5 ∷ x6 ∷ x7 ∷ x8 ∷ xs) a b c d e f g h l = absurd (omega arith)

-- place j of each of eight rows
pub each_row : (q : ℕ → ℤ) (j : ℕ) (a0 a1 a2 a3 a4 a5 a6 a7 : List ℤ)
    → lane a0 j ≡ q 0 → lane a1 j ≡ q 1 → lane a2 j ≡ q 2 → lane a3 j ≡ q 3 → lane a4 j ≡ q 4 → lane a5 j ≡ q 5 → lane a6 j ≡ q 6 → lane a7 j ≡ q 7
    → (b : ℕ) → b < 8 → place (a0 ∷ a1 ∷ a2 ∷ a3 ∷ a4 ∷ a5 ∷ a6 ∷ a7 ∷ []) b j ≡ q b
each_row q j a0 a1 a2 a3 a4 a5 a6 a7 = eight (λ b. place (a0 ∷ a1 ∷ a2 ∷ a3 ∷ a4 ∷ a5 ∷ a6 ∷ a7 ∷ []) b j ≡ q b)

-- ---- a turned square

-- row i has number i of each row
abbrev pub turned : {X : Type 0} → X → List (List X) → List (List X)
turned none rows = map (λ i. map (λ row. get_or row i none) rows) (0 ∷ 1 ∷ 2 ∷ 3 ∷ 4 ∷ 5 ∷ 6 ∷ 7 ∷ [])

pub turned_place : {X : Type 0} (none : X) (rows : List (List X)) (i b : ℕ) → length rows ≡ 8 → i < 8 → b < 8
    → get_or (get_or (turned none rows) i []) b none ≡ get_or (get_or rows b []) i none
turned_place none rows i b l g h =
    ap (λ row. get_or row b none) (get_or-map (λ j. map (λ row. get_or row j none) rows) (0 ∷ 1 ∷ 2 ∷ 3 ∷ 4 ∷ 5 ∷ 6 ∷ 7 ∷ []) i 0 [] g
    ∙ ap (λ j. map (λ row. get_or row j none) rows) (eight (λ j. get_or (0 ∷ 1 ∷ 2 ∷ 3 ∷ 4 ∷ 5 ∷ 6 ∷ 7 ∷ []) j 0 ≡ j) refl refl refl refl refl refl refl refl i g))
    ∙ get_or-map (λ row. get_or row i none) rows b [] none (omega arith)
