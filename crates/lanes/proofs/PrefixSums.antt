-- The sums before each of eight numbers, by sums of lanes that are one, two and four apart.
use Rattle.std.proofs.Common.{ℕ, ◌+◌, ◌-◌, ◌%◌, ◌^◌, ◌<◌, List, [], ◌∷◌, length, get_or, take, map, replicate, ◌≡◌, refl, sym, ap, ◌∙◌, arith}
use Rattle.std.proofs.lemmas.List.{map-id}
use Rattle.std.proofs.lemmas.List.Sums.{sum_by-cons}
use Rattle.std.specs.List.{sum}
use lib.Lanes.{zip2}
use Rattle.lanes.specs.Lanes.{number}
use Rattle.lanes.proofs.Steps.{eight}

abbrev added : List ℕ → List ℕ → List ℕ
added a b = zip2 (λ x y. (x + y) % 4294967296) a b

abbrev one_up : List ℕ → List ℕ
one_up a = 0 ∷ get_or a 0 0 ∷ get_or a 1 0 ∷ get_or a 2 0 ∷ get_or a 3 0 ∷ get_or a 4 0 ∷ get_or a 5 0 ∷ get_or a 6 0 ∷ []

abbrev two_up : List ℕ → List ℕ
two_up a = 0 ∷ 0 ∷ get_or a 0 0 ∷ get_or a 1 0 ∷ get_or a 2 0 ∷ get_or a 3 0 ∷ get_or a 4 0 ∷ get_or a 5 0 ∷ []

abbrev four_up : List ℕ → List ℕ
four_up a = 0 ∷ 0 ∷ 0 ∷ 0 ∷ get_or a 0 0 ∷ get_or a 1 0 ∷ get_or a 2 0 ∷ get_or a 3 0 ∷ []

abbrev of_two : List ℕ → List ℕ
of_two a = added a (one_up a)

abbrev of_four : List ℕ → List ℕ
of_four a = added (of_two a) (two_up (of_two a))

abbrev of_all : List ℕ → List ℕ
of_all a = added (of_four a) (four_up (of_four a))

abbrev pub sums : ℕ → List ℕ → List ℕ
sums first a = added (zip2 (λ x y. (x + (4294967296 - y)) % 4294967296) (of_all a) a) (replicate 8 first)

-- ---- the sum of a list, as it is computed
total : List ℕ → ℕ
total [] = 0
total (x ∷ xs) = x + total xs

sum_is_total : (xs : List ℕ) → sum xs ≡ total xs
unfolding total
sum_is_total [] = refl
sum_is_total (x ∷ xs) = sum_by-cons (λ n. n) x xs ∙ ap (λ n. x + n) (sum_is_total xs)

within : (x y : ℕ) → x + y < 4294967296 → (x + y) % 4294967296 ≡ x + y
within x y few = omega (arith, few)

explicit : (first a b c d e f g h k : ℕ) → first < 2 ^ 31 → a < 65536 → b < 65536 → c < 65536 → d < 65536 → e < 65536 → f < 65536 → g < 65536 → h < 65536 → k < 8
    → number (sums first (a ∷ b ∷ c ∷ d ∷ e ∷ f ∷ g ∷ h ∷ [])) k ≡ first + total (take k (a ∷ b ∷ c ∷ d ∷ e ∷ f ∷ g ∷ h ∷ []))
unfolding total
explicit first a b c d e f g h k few l0 l1 l2 l3 l4 l5 l6 l7 less =
    let xs : List ℕ = a ∷ b ∷ c ∷ d ∷ e ∷ f ∷ g ∷ h ∷ [] in
    eight (λ j. number (sums first xs) j ≡ first + total (take j xs)) (omega (arith, few, l0)) (omega (arith, few, l0, l1)) (omega (arith, few, l0, l1, l2))
    (omega (arith, few, l0, l1, l2, l3)) (omega (arith, few, l0, l1, l2, l3, l4)) (omega (arith, few, l0, l1, l2, l3, l4, l5))
    (omega (arith, few, l0, l1, l2, l3, l4, l5, l6)) (omega (arith, few, l0, l1, l2, l3, l4, l5, l6, l7)) k less

sums_before_are : (first : ℕ) (a : List ℕ) (k : ℕ) → length a ≡ 8 → first < 2 ^ 31 → ((j : ℕ) → j < 8 → number a j < 65536) → k < 8
    → number (sums first a) k ≡ first + sum (take k a)
sums_before_are first [] k long few below less = absurd (omega (arith, long))
sums_before_are first (a ∷ []) k long few below less = absurd (omega (arith, long))
sums_before_are first (a ∷ b ∷ []) k long few below less = absurd (omega (arith, long))
sums_before_are first (a ∷ b ∷ c ∷ []) k long few below less = absurd (omega (arith, long))
sums_before_are first (a ∷ b ∷ c ∷ d ∷ []) k long few below less = absurd (omega (arith, long))
sums_before_are first (a ∷ b ∷ c ∷ d ∷ e ∷ []) k long few below less = absurd (omega (arith, long))
sums_before_are first (a ∷ b ∷ c ∷ d ∷ e ∷ f ∷ []) k long few below less = absurd (omega (arith, long))
sums_before_are first (a ∷ b ∷ c ∷ d ∷ e ∷ f ∷ g ∷ []) k long few below less = absurd (omega (arith, long))
sums_before_are first (a ∷ b ∷ c ∷ d ∷ e ∷ f ∷ g ∷ h ∷ []) k long few below less =
    explicit first a b c d e f g h k few (below 0 (omega arith)) (below 1 (omega arith)) (below 2 (omega arith)) (below 3 (omega arith)) (below 4 (omega arith)) (below 5 (omega arith)) (below 6 (omega arith)) (below 7 (omega arith)) less
    ∙ ap (λ n. first + n) (sym (sum_is_total (take k (a ∷ b ∷ c ∷ d ∷ e ∷ f ∷ g ∷ h ∷ []))))
sums_before_are first (a ∷ b ∷ c ∷ d ∷ e ∷ f ∷ g ∷ h ∷ i ∷ rest) k long few below less = absurd (omega (arith, long))

-- the numbers stay the same in a wider type
pub sums_of_wide_are : (first : ℕ) (a : List ℕ) (k : ℕ) → length a ≡ 8 → first < 2 ^ 31 → ((j : ℕ) → j < 8 → number a j < 65536) → k < 8
    → number (sums first (map (λ x. x) a)) k ≡ first + sum (take k a)
sums_of_wide_are first a k long few below less = ap (λ v. number (sums first v) k) (map-id a) ∙ sums_before_are first a k long few below less
