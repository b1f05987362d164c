-- Items of lists, and lists of lists of numbers from a first one on.
use Rattle.std.proofs.Common.{◌≡◌, ◌≢◌, ◌⊎◌, ◌+◌, ◌*◌, ◌<◌, ◌≤◌, ℕ, suc, zero, List, [], ◌∷◌, ◌++◌, length, map, take, drop, set, get_or, Some, None, refl, ap}
use Rattle.std.proofs.Common.{◌∙◌, inl, inr, arith}
use Rattle.std.proofs.lemmas.List.{get_or-append-add, get_or_append_left, length-append, take_more}
use Rattle.std.proofs.lemmas.Option.{slice_get_within, get_or_from_slice_get}
use Rattle.std.specs.List.{AllByRecursion, flat_map, slice_get, slice_index}
use Rattle.cube_core.specs.Order.{from}

pub length-from : (a n : ℕ) → length (from a n) ≡ n
length-from a zero = refl
length-from a (suc n) = ap suc (length-from (suc a) n)

pub get_or-from : (a n i d : ℕ) → i < n → get_or (from a n) i d ≡ a + i
get_or-from a zero i d lt = absurd (omega arith)
get_or-from a (suc n) zero d lt = omega arith
get_or-from a (suc n) (suc i) d lt = get_or-from (suc a) n i d (omega arith) ∙ omega arith

-- pieces of one length, so many of them
pub length-pieces : {A : Type 0} (f : ℕ → List A) (a n w : ℕ) → ((k : ℕ) → a ≤ k → k < a + n → length (f k) ≡ w) → length (flat_map f (from a n)) ≡ n * w
length-pieces f a zero w same = omega arith
length-pieces f a (suc n) w same =
    let first : length (f a) ≡ w = same a (omega arith) (omega arith) in
    let others : length (flat_map f (from (suc a) n)) ≡ n * w = length-pieces f (suc a) n w (λ k low high. same k (omega arith) (omega arith)) in
    length-append (f a) (flat_map f (from (suc a) n)) ∙ rw (first, others) (omega arith)

-- the j-th item of the i-th piece, where the pieces before it have one length
pub get_or-pieces : {A : Type 0} (f : ℕ → List A) (a n w i j : ℕ) (d : A) → ((k : ℕ) → a ≤ k → k < a + i → length (f k) ≡ w) → i < n → j < length (f (a + i))
    → get_or (flat_map f (from a n)) (i * w + j) d ≡ get_or (f (a + i)) j d
get_or-pieces f a zero w i j d same lt in_piece = absurd (omega arith)
get_or-pieces f a (suc n) w zero j d same lt in_piece =
    let e : a + 0 ≡ a = omega arith in
    let z : 0 * w + j ≡ j = omega arith in
    rw (z, e) (get_or_append_left (f a) (flat_map f (from (suc a) n)) d j (rw e at in_piece))
get_or-pieces f a (suc n) w (suc i) j d same lt in_piece =
    let e : a + suc i ≡ suc a + i = omega arith in
    let first : length (f a) ≡ w = same a (omega arith) (omega arith) in
    let z : suc i * w + j ≡ length (f a) + (i * w + j) = rw first (omega arith) in
    let rest = get_or-pieces f (suc a) n w i j d (λ k low high. same k (omega arith) (omega arith)) (omega arith) (rw e at in_piece) in
    rw (z, e) (get_or-append-add (f a) (flat_map f (from (suc a) n)) (i * w + j) d ∙ rest)

-- an item after so many
pub get_drop : {A : Type 0} (xs : List A) (n i : ℕ) → slice_get (drop n xs) i ≡ slice_get xs (n + i)
get_drop [] zero i = refl
get_drop [] (suc n) i = refl
get_drop (x ∷ xs) zero i = let e : 0 + i ≡ i = omega arith in rw e refl
get_drop (x ∷ xs) (suc n) i = let e : suc n + i ≡ suc (n + i) = omega arith in rw e (get_drop xs n i)

pub get-drop : {A : Type 0} (xs : List A) (n : ℕ) → slice_get (drop n xs) 0 ≡ slice_get xs n
get-drop xs n = let e : n + 0 ≡ n = omega arith in get_drop xs n 0 ∙ rw e refl

-- the items before an item and the item
pub take_next : {A : Type 0} (xs : List A) (i : ℕ) (x : A) → slice_get xs i ≡ Some x → (i < length xs) × (take (i + 1) xs ≡ take i xs ++ x ∷ [])
take_next {A = A} xs i x e =
    let lt : i < length xs = slice_get_within xs i x e in
    (lt, take_more xs i x lt ∙ ap (λ (y : A). take i xs ++ y ∷ []) (get_or_from_slice_get xs i x x e))

-- the first item, and those after it
pub first_of : {A : Type 0} (xs : List A) (x : A) → slice_get xs 0 ≡ Some x → (rest : List A) × (xs ≡ x ∷ rest)
first_of [] x e = absurd (cc)
first_of (y ∷ rest) x e = (rest, cc)

pub none_first : {A : Type 0} (xs : List A) → slice_get xs 0 ≡ None → xs ≡ []
none_first [] e = refl
none_first (x ∷ rest) e = absurd (cc)

-- an item of a list in which one was set, or after which one was put
pub get_set : {A : Type 0} (xs : List A) (i k : ℕ) (x y : A) → slice_get (set xs i x) k ≡ Some y → ((k ≡ i) × (y ≡ x)) ⊎ ((k ≢ i) × (slice_get xs k ≡ Some y))
get_set [] i k x y e = absurd (cc)
get_set (z ∷ zs) zero zero x y e = inl (refl, cc)
get_set (z ∷ zs) zero (suc k) x y e = inr ((λ h. absurd (omega arith)), e)
get_set (z ∷ zs) (suc i) zero x y e = inr ((λ h. absurd (omega arith)), e)
get_set (z ∷ zs) (suc i) (suc k) x y e = elim (get_set zs i k x y e) [ inl (h, g) ↦ inl (ap suc h, g) | inr (h, g) ↦ inr ((λ f. h (omega arith)), g) ]

pub get_push : {A : Type 0} (xs : List A) (x y : A) (k : ℕ) → slice_get (xs ++ x ∷ []) k ≡ Some y → (slice_get xs k ≡ Some y) ⊎ ((k ≡ length xs) × (y ≡ x))
get_push [] x y zero e = inr (refl, cc)
get_push [] x y (suc k) e = absurd (cc)
get_push (z ∷ zs) x y zero e = inl e
get_push (z ∷ zs) x y (suc k) e = elim (get_push zs x y k e) [ inl h ↦ inl h | inr (h, g) ↦ inr (ap suc h, g) ]

-- ---- lists of what is found of items

pub all_mapped : {A B : Type 0} (P : B → Type 0) (f : A → B) (xs : List A) → ((i : ℕ) (x : A) → slice_get xs i ≡ Some x → P (f x)) → AllByRecursion P (map f xs)
all_mapped P f [] h = tt
all_mapped P f (x ∷ xs) h = (h 0 x refl, all_mapped P f xs (λ i y e. h (suc i) y e))

-- the first items, so many, are there, and P holds of each
pub all_taken : {A : Type 0} (P : A → Type 0) (xs : List A) (n : ℕ) → ((i : ℕ) → i < n → (x : A) × (slice_get xs i ≡ Some x) × P x)
    → (n ≤ length xs) × AllByRecursion P (take n xs)
all_taken P xs zero h = (omega arith, tt)
all_taken P [] (suc n) h = absurd (let none = (h 0 (omega arith)).1 in cc)
all_taken P (x ∷ xs) (suc n) h =
    let first = h 0 (omega arith) in
    let here : x ≡ first.0 = (let at = first.1 in cc) in
    let rest = all_taken P xs n (λ i lt. h (suc i) (omega arith)) in
    (omega (arith, rest.0), (rw here first.2, rest.1))

pub map_taken : {A : Type 0} (f : A → ℕ) (xs : List A) (ns : List ℕ)
    → ((i : ℕ) → i < length ns → (x : A) × (slice_get xs i ≡ Some x) × (f x ≡ slice_index ns i)) → map f (take (length ns) xs) ≡ ns
map_taken f xs [] h = refl
map_taken f [] (n ∷ ns) h = absurd (let none = (h 0 (omega arith)).1 in cc)
map_taken f (x ∷ xs) (n ∷ ns) h =
    let first = h 0 (omega arith) in
    let here : f x ≡ n = (let at = first.1 in let number = first.2 in cc) in
    let rest = map_taken f xs ns (λ i lt. h (suc i) (omega arith)) in
    cc

pub map_taken_same : {A B : Type 0} (f g : A → B) (n : ℕ) (xs : List A) → ((i : ℕ) (x : A) → i < n → slice_get xs i ≡ Some x → f x ≡ g x)
    → map f (take n xs) ≡ map g (take n xs)
map_taken_same f g zero xs h = refl
map_taken_same f g (suc n) [] h = refl
map_taken_same f g (suc n) (x ∷ xs) h =
    let first = h 0 x (omega arith) refl in
    let rest = map_taken_same f g n xs (λ i y lt e. h (suc i) y (omega arith) e) in
    cc

-- functions that map a list to one list are one at its items
pub map_same : {A B : Type 0} (f g : A → B) (xs : List A) (i : ℕ) (x : A) → map f xs ≡ map g xs → slice_get xs i ≡ Some x → f x ≡ g x
map_same f g [] i x e h = absurd (cc)
map_same f g (y ∷ xs) zero x e h = cc
map_same f g (y ∷ xs) (suc i) x e h = map_same f g xs i x (cc) h

-- each of some numbers in range
pub each_below : (limit : ℕ) (list : List ℕ) → AllByRecursion (λ n. n < limit) list → (i : ℕ) → i < length list → slice_index list i < limit
each_below limit [] h i lt = absurd (omega arith)
each_below limit (x ∷ xs) h zero lt = h.0
each_below limit (x ∷ xs) h (suc i) lt = each_below limit xs h.1 i (omega arith)
