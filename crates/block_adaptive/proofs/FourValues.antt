-- Values of which four at a time allow any low bits.
use Rattle.std.proofs.Common.{◌≡◌, ℕ, ◌+◌, ◌*◌, ◌^◌, ◌<◌, ◌≤◌, List, [], ◌∷◌, ◌++◌, length, take, drop, set, get_or}
use Rattle.std.proofs.Common.{sym, ap, subst, ◌∙◌, arith, append_assoc, bit_or}
use Rattle.std.specs.List.{AllByRecursion}
use Rattle.std.proofs.lemmas.List.{drop_at, length-append, length-take, take_all, take_more_set}
use Rattle.std.proofs.lemmas.Nat.{mul-le, le_or_l, le_or_r}
use Rattle.header_bits.proofs.Items.{all_weaker, all_drop, all_append}

abbrev pub Within : ℕ → ℕ → List ℕ → Type 0
Within k limit qs = AllByRecursion (λ q. (q + 1) * 2 ^ k ≤ limit) qs

-- all do, where the greatest does
pub all_within : (k greatest limit : ℕ) (qs : List ℕ) → (greatest + 1) * 2 ^ k ≤ limit → AllByRecursion (λ q. q ≤ greatest) qs → Within k limit qs
all_within k greatest limit qs within h =
    all_weaker _ _ (λ q le. (let p = mul-le (q + 1) (2 ^ k) (greatest + 1) (2 ^ k) (omega arith) (omega arith) in omega arith)) qs h

-- each of four does, though those before it are written over
pub four_within : (k limit : ℕ) (xs : List ℕ) (r s t : ℕ) → length xs ≡ 4 → Within k limit xs
    → ((get_or xs 0 0 + 1) * 2 ^ k ≤ limit) × ((get_or (set xs 0 r) 1 0 + 1) * 2 ^ k ≤ limit) × ((get_or (set (set xs 0 r) 1 s) 2 0 + 1) * 2 ^ k ≤ limit) ×
    ((get_or (set (set (set xs 0 r) 1 s) 2 t) 3 0 + 1) * 2 ^ k ≤ limit)
four_within k limit [] r s t len h = absurd (omega arith)
four_within k limit (a ∷ []) r s t len h = absurd (omega arith)
four_within k limit (a ∷ b ∷ []) r s t len h = absurd (omega arith)
four_within k limit (a ∷ b ∷ c ∷ []) r s t len h = absurd (omega arith)
four_within k limit (a ∷ b ∷ c ∷ d ∷ []) r s t len h = (h.0, h.1.0, h.1.1.0, h.1.1.1.0)
four_within k limit (a ∷ b ∷ c ∷ d ∷ e ∷ xs) r s t len h = absurd (omega arith)

pub fours_after : (k limit i n : ℕ) (vs new : List ℕ) → i + n ≤ length vs → length new ≡ n → Within k limit (drop i vs)
    → Within k limit (drop (i + n) (take i vs ++ (new ++ drop n (drop i vs))))
fours_after k limit i n vs new le long h =
    let later : List ℕ = drop n (drop i vs) in
    let size : length (take i vs ++ new) ≡ i + n = omega (arith, length-append (take i vs) new, length-take i vs) in
    let rest : drop (i + n) (take i vs ++ (new ++ later)) ≡ later = ap (drop (i + n)) (sym (append_assoc (take i vs) new later)) ∙ drop_at _ _ _ size in
    rw rest (all_drop _ n _ h)

pub bound_more : (bound q i : ℕ) (vs : List ℕ) → i < length vs → AllByRecursion (λ v. v ≤ bound) (take i vs)
    → AllByRecursion (λ v. v ≤ bit_or bound q) (take (i + 1) (set vs i q))
bound_more bound q i vs lt h =
    let before = all_weaker (λ v. v ≤ bound) (λ v. v ≤ bit_or bound q) (λ v le. omega (arith, le_or_l bound q)) _ h in
    rw (take_more_set _ _ _ lt) (all_append _ (take i vs) (q ∷ []) before (le_or_r _ _, tt))

pub all_bound : (bound i : ℕ) (vs : List ℕ) → i ≡ length vs → AllByRecursion (λ v. v ≤ bound) (take i vs) → AllByRecursion (λ v. v ≤ bound) vs
all_bound bound i vs same h = subst (λ (xs : List ℕ). AllByRecursion (λ v. v ≤ bound) xs) (take_all i vs (omega arith)) h
