-- Weights and components in rows of pairs, as whole lists.
use Rattle.std.proofs.Common.{◌≡◌, ℕ, zero, suc, ◌+◌, ◌*◌, ◌<◌, ◌≤◌, ℤ, pos, List, [], ◌∷◌, length, map, take, get_or, refl, sym, ap, ap₂, ◌∙◌, ◌^◌, subst, arith, ◌-◌, ◌/◌, unsigned_abs, ◌++◌, replicate, ◌≢◌, inl, inr, get_or-take}
use Rattle.std.specs.List.{flat_map}
use Rattle.std.proofs.lemmas.List.{length-take-le, get_or_past, get_or_append_left, get_or-append_right}
use Rattle.sample_prediction.proofs.Inner.{within_take}
use Rattle.lanes.specs.Lanes.{lane, place}
use Rattle.predict_core.specs.Following.{PredictorState}
use Rattle.predict_core.specs.BandLanes.{HasWeights}
use Rattle.sample_prediction.specs.Bounds.{AllWithin}
use Rattle.sample_prediction.specs.Predictor.{component_count}
use Rattle.band_lanes.specs.declared.pairs.Pairs.{Pairs}
use Rattle.band_lanes.specs.Rows.{row_at, weights_of, components_of, no_pairs, AreBelow}
use Rattle.std.proofs.lemmas.Bool.{cases_eq, cases_lt}

-- two numbers of each item, as the first numbers of a list
pairs_are : {A : Type 0} (even odd : A → ℤ) (none : A) (n : ℕ) (xs : List A) (vs : List ℤ) → n ≤ length xs → 2 * n ≤ length vs
    → ((j : ℕ) → j < n → even (get_or xs j none) ≡ get_or vs (2 * j) (pos 0)) → ((j : ℕ) → j < n → odd (get_or xs j none) ≡ get_or vs (2 * j + 1) (pos 0))
    → flat_map (λ x. even x ∷ odd x ∷ []) (take n xs) ≡ take (2 * n) vs
pairs_are even odd none zero xs vs a b h k = refl
pairs_are even odd none (suc n) [] vs a b h k = absurd (omega (arith, a))
pairs_are even odd none (suc n) (x ∷ xs) [] a b h k = absurd (omega (arith, b))
pairs_are even odd none (suc n) (x ∷ xs) (v ∷ []) a b h k = absurd (omega (arith, b))
pairs_are even odd none (suc n) (x ∷ xs) (v ∷ w ∷ vs) a b h k =
    let first : even x ≡ v = h 0 (omega arith) in let second : odd x ≡ w = k 0 (omega arith) in
    let two : (m : ℕ) → 2 * suc m ≡ suc (suc (2 * m)) = λ m. omega arith in
    let after : (m : ℕ) → 2 * suc m + 1 ≡ suc (suc (2 * m + 1)) = λ m. omega arith in
    let rest = pairs_are even odd none n xs vs (omega (arith, a)) (omega (arith, b))
    (λ j l. h (suc j) (omega (arith, l)) ∙ ap (λ i. get_or (v ∷ w ∷ vs) i (pos 0)) (two j))
    (λ j l. k (suc j) (omega (arith, l)) ∙ ap (λ i. get_or (v ∷ w ∷ vs) i (pos 0)) (after j)) in
    rw (two n) (ap₂ (λ e ys. e ∷ ys) first (ap₂ (λ e ys. e ∷ ys) second rest))

pub weights_are : (q b : ℕ) (rows : List (List ℤ)) (vs : List ℤ) → q ≤ length rows → 2 * q ≤ length vs
    → ((j : ℕ) → j < q → place rows j (2 * b) ≡ get_or vs (2 * j) (pos 0)) → ((j : ℕ) → j < q → place rows j (2 * b + 1) ≡ get_or vs (2 * j + 1) (pos 0))
    → weights_of q b rows ≡ take (2 * q) vs
unfolding weights_of
weights_are q b rows vs = pairs_are (λ r. lane r (2 * b)) (λ r. lane r (2 * b + 1)) [] q rows vs

pub components_are : (q b i : ℕ) (pairs : List Pairs) (vs : List ℤ) → q ≤ length pairs → 2 * q ≤ length vs
    → ((j : ℕ) → j < q → lane (row_at (get_or pairs j no_pairs) i) (2 * b) ≡ get_or vs (2 * j) (pos 0))
    → ((j : ℕ) → j < q → lane (row_at (get_or pairs j no_pairs) i) (2 * b + 1) ≡ get_or vs (2 * j + 1) (pos 0))
    → components_of q b pairs i ≡ take (2 * q) vs
unfolding components_of
components_are q b i pairs vs = pairs_are (λ (r : Pairs). lane (row_at r i) (2 * b)) (λ (r : Pairs). lane (row_at r i) (2 * b + 1)) no_pairs q pairs vs

-- the components at a place are in the rows of that place as weights are in theirs
pub components_at : (n b i : ℕ) (pairs : List Pairs) → components_of n b pairs i ≡ weights_of n b (map (λ (q : Pairs). row_at q i) pairs)
unfolding weights_of components_of
components_at zero b i pairs = refl
components_at (suc n) b i [] = refl
components_at (suc n) b i (p ∷ ps) = ap (λ ys. lane (row_at p i) (2 * b) ∷ lane (row_at p i) (2 * b + 1) ∷ ys) (components_at n b i ps)

-- a band's weights are the same in rows that hold the same in its lane
pub weights_same : (q b : ℕ) (rows others : List (List ℤ)) → length rows ≡ length others
    → ((j : ℕ) → place rows j (2 * b) ≡ place others j (2 * b)) → ((j : ℕ) → place rows j (2 * b + 1) ≡ place others j (2 * b + 1))
    → weights_of q b rows ≡ weights_of q b others
unfolding weights_of
weights_same zero b rows others e h k = refl
weights_same (suc q) b [] [] e h k = refl
weights_same (suc q) b [] (o ∷ os) e h k = absurd (omega (arith, e))
weights_same (suc q) b (r ∷ rs) [] e h k = absurd (omega (arith, e))
weights_same (suc q) b (r ∷ rs) (o ∷ os) e h k =
    ap₂ (λ v ys. v ∷ ys) (h 0) (ap₂ (λ v ys. v ∷ ys) (k 0) (weights_same q b rs os (omega (arith, e)) (λ j. h (suc j)) (λ j. k (suc j))))

pub same_weights : (q b : ℕ) (s : PredictorState) (rows others : List (List ℤ)) → weights_of q b others ≡ weights_of q b rows → HasWeights q b s rows
    → HasWeights q b s others
same_weights q b s rows others e h = record {
  long = h.long;
  used = λ l. ap (take (length s.weights)) e ∙ h.used l;
  within = subst (AllWithin (2 ^ (s.predictor.omega + 2))) (sym e) h.within;
}

take_twice : (n m : ℕ) (xs : List ℤ) → n ≤ m → take n (take m xs) ≡ take n xs
take_twice zero m xs h = refl
take_twice (suc n) zero xs h = absurd (omega (arith, h))
take_twice (suc n) (suc m) [] h = refl
take_twice (suc n) (suc m) (x ∷ xs) h = ap (λ ys. x ∷ ys) (take_twice n m xs (omega (arith, h)))

pub weights_held : (q b : ℕ) (s : PredictorState) (n : ℕ) (ws : List ℤ) (rows : List (List ℤ)) → take n ws ≡ s.weights → n ≤ length ws
    → n ≡ component_count s.predictor s.band → AllWithin (2 ^ (s.predictor.omega + 2)) ws → weights_of q b rows ≡ take (2 * q) ws → HasWeights q b s rows
weights_held q b s n ws rows is few count within e =
    let long : length s.weights ≡ n = ap length (sym is) ∙ length-take-le n ws few in record {
      long = long ∙ count;
      used = λ l. rw (long, e) (take_twice n (2 * q) ws (omega (arith, long, l)) ∙ is);
      within = rw e (within_take (2 ^ (s.predictor.omega + 2)) (2 * q) ws within);
    }

-- the first numbers of two lists are the same if each is
pub same_first : (n : ℕ) (xs ys : List ℤ) → n ≤ length xs → n ≤ length ys → ((k : ℕ) → k < n → get_or xs k (pos 0) ≡ get_or ys k (pos 0)) → take n xs ≡ take n ys
same_first zero xs ys h l same = refl
same_first (suc n) [] ys h l same = absurd (omega (arith, h))
same_first (suc n) (x ∷ xs) [] h l same = absurd (omega (arith, l))
same_first (suc n) (x ∷ xs) (y ∷ ys) h l same =
    ap₂ (λ v vs. v ∷ vs) (same 0 (omega arith)) (same_first n xs ys (omega (arith, h)) (omega (arith, l)) (λ k m. same (suc k) (omega (arith, m))))

-- entries after a list's end are zeros, as they are told
pub padded_at : (us : List ℤ) (m k : ℕ) → get_or (us ++ replicate m (pos 0)) k (pos 0) ≡ get_or us k (pos 0)
padded_at us m k = elim (cases_lt k (length us)) [
  | inl l ↦ get_or_append_left us (replicate m (pos 0)) (pos 0) k l
  | inr l ↦ get_or-append_right us (replicate m (pos 0)) (length us) k (pos 0) refl l ∙ none m (k - length us) ∙ sym (get_or_past us k (pos 0) l)
]
  where
    none : (m k : ℕ) → get_or (replicate m (pos 0)) k (pos 0) ≡ pos 0
    none zero k = refl
    none (suc m) zero = refl
    none (suc m) (suc k) = none m k

-- what holds of both numbers of each of eight bands holds of sixteen
pub by_pairs : (P : ℕ → Type 0) → ((b : ℕ) → b < 8 → P (2 * b)) → ((b : ℕ) → b < 8 → P (2 * b + 1)) → (k : ℕ) → k < 16 → P k
by_pairs P even odd k l = elim (cases_eq k (2 * (k / 2))) [
  | inl e ↦ subst P (sym e) (even (k / 2) (omega (arith, l)))
  | inr n ↦ subst P (sym (other n)) (odd (k / 2) (omega (arith, l)))
]
  where
    other : k ≢ 2 * (k / 2) → k ≡ 2 * (k / 2) + 1
    other n = omega (arith, n)

pub all_below : (limit q i : ℕ) (pairs : List Pairs) → ((j b : ℕ) → j < q → b < 8 → unsigned_abs (lane (row_at (get_or pairs j no_pairs) i) (2 * b)) < limit)
    → ((j b : ℕ) → j < q → b < 8 → unsigned_abs (lane (row_at (get_or pairs j no_pairs) i) (2 * b + 1)) < limit) → AreBelow limit q pairs i
all_below limit q i pairs even odd j k l = by_pairs (λ n. unsigned_abs (lane (row_at (get_or pairs j no_pairs) i) n) < limit) (λ b. even j b l) (λ b. odd j b l) k

-- weights of which the first are replaced
pub replaced_within : (limit n : ℕ) (ws old new : List ℤ) → take n new ≡ ws → length ws ≡ n → length new ≡ length old
    → ((k : ℕ) → n ≤ k → get_or new k (pos 0) ≡ get_or old k (pos 0)) → AllWithin limit ws → AllWithin limit old → AllWithin limit new
replaced_within limit n ws old new e long same rest h k i l = elim (cases_lt i n) [
  | inl m ↦ subst (λ v. unsigned_abs v ≤ limit) (ap (λ xs. get_or xs i (pos 0)) (sym e) ∙ get_or-take n new i (pos 0) m) (h i (omega (arith, m, long)))
  | inr m ↦ subst (λ v. unsigned_abs v ≤ limit) (sym (rest i m)) (k i (omega (arith, l, same)))
]
