-- The components of a place, gathered from the quads of a room.
use Rattle.std.proofs.Common.{◌≡◌, ℕ, ◌≤◌, List, [], ◌∷◌, ◌++◌, length, take, replicate, get_or, ℤ, pos, refl, subst, ◌∙◌, arith}
use Rattle.predict_core.specs.declared.differences.room.Quad.{Quad}
use Rattle.predict_core.specs.Rooms.{quad_or_zeros, components_at}

listed : (xs : List ℤ) → length xs ≡ 4 → get_or xs 0 (pos 0) ∷ get_or xs 1 (pos 0) ∷ get_or xs 2 (pos 0) ∷ get_or xs 3 (pos 0) ∷ [] ≡ xs
listed [] l = absurd (omega (arith, l))
listed (a ∷ []) l = absurd (omega (arith, l))
listed (a ∷ b ∷ []) l = absurd (omega (arith, l))
listed (a ∷ b ∷ d ∷ []) l = absurd (omega (arith, l))
listed (a ∷ b ∷ d ∷ e ∷ []) l = refl
listed (a ∷ b ∷ d ∷ e ∷ f ∷ xs) l = absurd (omega (arith, l))

abbrev heads : List ℤ → List ℤ → List ℤ → List ℤ → List ℤ → List ℤ
heads a b d e f =
    get_or a 0 (pos 0) ∷ get_or a 1 (pos 0) ∷ get_or a 2 (pos 0) ∷ get_or a 3 (pos 0) ∷ get_or b 0 (pos 0) ∷ get_or b 1 (pos 0) ∷ get_or b 2 (pos 0)
    ∷ get_or b 3 (pos 0) ∷ get_or d 0 (pos 0) ∷ get_or d 1 (pos 0) ∷ get_or d 2 (pos 0) ∷ get_or d 3 (pos 0) ∷ get_or e 0 (pos 0) ∷ get_or e 1 (pos 0)
    ∷ get_or e 2 (pos 0) ∷ get_or e 3 (pos 0) ∷ get_or f 0 (pos 0) ∷ get_or f 1 (pos 0) ∷ []

gathered_of : (quads : List Quad) (i : ℕ) (a b d e f : List ℤ) → length quads ≤ 5 → length a ≡ 4 → length b ≡ 4 → length d ≡ 4 → length e ≡ 4 → length f ≡ 4
    → a ≡ quad_or_zeros (length quads) quads 0 i → b ≡ quad_or_zeros (length quads) quads 1 i → d ≡ quad_or_zeros (length quads) quads 2 i
    → e ≡ quad_or_zeros (length quads) quads 3 i → f ≡ quad_or_zeros (length quads) quads 4 i
    → heads a b d e f ≡ take 18 (components_at (length quads) quads i ++ replicate 18 (pos 0))
unfolding components_at
gathered_of [] i a b d e f h la lb ld le lf ea eb ed ee ef = rw (ea, eb, ed, ee, ef) refl
gathered_of (q0 ∷ []) i a b d e f h la lb ld le lf ea eb ed ee ef = rw (← (listed a la ∙ ea), eb, ed, ee, ef) refl
gathered_of (q0 ∷ q1 ∷ []) i a b d e f h la lb ld le lf ea eb ed ee ef = rw (← (listed a la ∙ ea), ← (listed b lb ∙ eb), ed, ee, ef) refl
gathered_of (q0 ∷ q1 ∷ q2 ∷ []) i a b d e f h la lb ld le lf ea eb ed ee ef = rw (← (listed a la ∙ ea), ← (listed b lb ∙ eb), ← (listed d ld ∙ ed), ee, ef) refl
gathered_of (q0 ∷ q1 ∷ q2 ∷ q3 ∷ []) i a b d e f h la lb ld le lf ea eb ed ee ef =
    rw (← (listed a la ∙ ea), ← (listed b lb ∙ eb), ← (listed d ld ∙ ed), ← (listed e le ∙ ee), ef) refl
gathered_of (q0 ∷ q1 ∷ q2 ∷ q3 ∷ q4 ∷ []) i a b d e f h la lb ld le lf ea eb ed ee ef =
    rw (← (listed a la ∙ ea), ← (listed b lb ∙ eb), ← (listed d ld ∙ ed), ← (listed e le ∙ ee), ← (listed f lf ∙ ef)) refl
gathered_of (q0 ∷ q1 ∷ q2 ∷ q3 ∷ q4 ∷ q5 ∷ qs) i a b d e f h la lb ld le lf ea eb ed ee ef = absurd (omega (arith, h))

pub gathered : (n : ℕ) (quads : List Quad) (i : ℕ) (a b d e f : List ℤ) → n ≤ 5 → length quads ≡ n → length a ≡ 4 → length b ≡ 4 → length d ≡ 4
    → length e ≡ 4 → length f ≡ 4
    → a ≡ quad_or_zeros n quads 0 i → b ≡ quad_or_zeros n quads 1 i → d ≡ quad_or_zeros n quads 2 i → e ≡ quad_or_zeros n quads 3 i
    → f ≡ quad_or_zeros n quads 4 i
    → heads a b d e f ≡ take 18 (components_at n quads i ++ replicate 18 (pos 0))
gathered n quads i a b d e f h k la lb ld le lf =
    subst (λ m. a ≡ quad_or_zeros m quads 0 i → b ≡ quad_or_zeros m quads 1 i → d ≡ quad_or_zeros m quads 2 i → e ≡ quad_or_zeros m quads 3 i
    → f ≡ quad_or_zeros m quads 4 i → heads a b d e f ≡ take 18 (components_at m quads i ++ replicate 18 (pos 0))) k
    (gathered_of quads i a b d e f (omega (arith, k, h)) la lb ld le lf)
