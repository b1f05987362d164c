-- Rows of pairs of 32 bits: their numbers by band, a row more, and how large their products are.
use Rattle.std.proofs.Common.{◌≡◌, ℕ, zero, suc, ◌+◌, ◌-◌, ◌*◌, ◌/◌, ◌%◌, ◌^◌, ◌<◌, ◌≤◌, ℤ, pos, ◌+ℤ◌, ◌*ℤ◌, unsigned_abs, Bool, List, [], ◌∷◌, ◌++◌, length, take, get_or, set, arith, refl, sym, ap, ap₂, ◌∙◌, subst, inl, inr, le_trans, get_or-take}
use Rattle.std.proofs.lemmas.Bool.{cases_lt}
use Rattle.std.proofs.lemmas.Int.{ints, unsigned_abs-mul}
use Rattle.std.proofs.lemmas.List.{length-take-le}
use Rattle.std.proofs.lemmas.Nat.{mul-le}
use Rattle.std.proofs.lemmas.Simd.{get_or-chunk}
use Rattle.std.specs.List.{flat_map}
use Rattle.std.specs.Simd.{first_chunks}
use Rattle.lanes.specs.Lanes.{lane, pair_sum}
use Rattle.lanes.proofs.TurningFour.{chunk_of_four}
use Rattle.sample_prediction.specs.Bounds.{AllWithin}
use Rattle.sample_prediction.specs.Prediction.{inner_product}
use Rattle.sample_prediction.specs.Weights.{updated_weights}
use Rattle.sample_prediction.proofs.Inner.{inner_within}
use Rattle.band_lanes.specs.Rows.{pair_of, weights_of, pairs_of, AreRowsWithin}
use Rattle.band_lanes.proofs.Rows.{weights_long, weights_more, with_row, two_products, pair_updated}

-- four numbers of a row
pub quarter : (n j k : ℕ) (row : List ℤ) → j < n → k < 4 → lane (get_or (first_chunks 4 n row) j []) k ≡ lane row (4 * j + k)
quarter n j k row h l = ap (λ v. lane v k) (chunk_of_four n j row h) ∙ get_or-chunk (4 * j) 4 row k (pos 0) l

-- what holds of the first eight of sixteen, and of the last
pub by_halves : (P : ℕ → Type 0) → ((k : ℕ) → k < 8 → P k) → ((k : ℕ) → k < 8 → P (8 + k)) → (k : ℕ) → k < 16 → P k
by_halves P first last k l = elim (cases_lt k 8) [
  | inl low ↦ first k low
  | inr high ↦ subst P (let e : 8 + (k - 8) ≡ k = omega (arith, high) in e) (last (k - 8) (omega (arith, l, high)))
]

-- ---- one number of a band

number_at : (b : ℕ) (rows : List (List ℤ)) (k : ℕ) → k < 2 * length rows
    → get_or (flat_map (pair_of b) rows) k (pos 0) ≡ lane (get_or rows (k / 2) []) (2 * b + k % 2)
number_at b [] k h = absurd (omega (arith, h))
number_at b (r ∷ rows) zero h = ap (λ i. lane r i) (omega arith)
number_at b (r ∷ rows) (suc zero) h = refl
number_at b (r ∷ rows) (suc (suc k)) h =
    let half : suc (suc k) / 2 ≡ suc (k / 2) = omega arith in let rest : suc (suc k) % 2 ≡ k % 2 = omega arith in
    number_at b rows k (omega (arith, h)) ∙ rw (half, rest) refl

number_is : (n b k : ℕ) (rows : List (List ℤ)) → n ≤ length rows → k < 2 * n → get_or (weights_of n b rows) k (pos 0) ≡ lane (get_or rows (k / 2) []) (2 * b + k % 2)
unfolding weights_of
number_is n b k rows h l =
    let long = length-take-le n rows h in
    number_at b (take n rows) k (omega (arith, long, l)) ∙ ap (λ row. lane row (2 * b + k % 2)) (get_or-take n rows (k / 2) [] (omega (arith, l)))

-- what is in range in each band is so in all lanes
pub rows_within : (limit n : ℕ) (rows : List (List ℤ)) → n ≤ length rows → ((b : ℕ) → b < 8 → AllWithin limit (weights_of n b rows)) → AreRowsWithin limit n rows
rows_within limit n rows h w c k l m =
    let long = weights_long n (k / 2) rows h in let row : (2 * c + k % 2) / 2 ≡ c = omega arith in
    let at : 2 * (k / 2) + (2 * c + k % 2) % 2 ≡ k = omega arith in
    subst (λ v. unsigned_abs v ≤ limit)
    (number_is n (k / 2) (2 * c + k % 2) rows h (omega (arith, l)) ∙ ap₂ (λ r i. lane (get_or rows r []) i) row at)
    (w (k / 2) (omega (arith, m)) (2 * c + k % 2) (omega (arith, long, l)))

-- and the other way round
pub all_within : (limit n b : ℕ) (rows : List (List ℤ)) → n ≤ length rows → b < 8 → AreRowsWithin limit n rows → AllWithin limit (weights_of n b rows)
all_within limit n b rows h l w k m =
    let long = weights_long n b rows h in let few : k < 2 * n = omega (arith, long, m) in
    subst (λ v. unsigned_abs v ≤ limit) (sym (number_is n b k rows h few)) (w (k / 2) (2 * b + k % 2) (omega (arith, few)) (omega (arith, l)))

-- ---- their products

pub row_products_none : (b : ℕ) (rows others : List (List ℤ)) → inner_product (weights_of 0 b rows) (pairs_of 0 b others) ≡ pos 0
unfolding inner_product weights_of
row_products_none b rows others = refl

pub row_products_more : (n b : ℕ) (rows others : List (List ℤ)) → n < length rows → n < length others
    → inner_product (weights_of (n + 1) b rows) (pairs_of (n + 1) b others)
    ≡ inner_product (weights_of n b rows) (pairs_of n b others) +ℤ pair_sum (get_or rows n []) (get_or others n []) b
row_products_more n b rows others h k =
    ap₂ inner_product (weights_more n b rows h) (weights_more n b others k)
    ∙ two_products (weights_of n b rows) (weights_of n b others) _ _ _ _ (weights_long n b rows (omega (arith, h)) ∙ sym (weights_long n b others (omega (arith, k))))

pub products_in : (limit n m b : ℕ) (rows others : List (List ℤ)) → n ≤ m → m ≤ 9 → m ≤ length rows → m ≤ length others → b < 8 → AreRowsWithin limit m rows
    → AreRowsWithin (2 ^ 18) m others → unsigned_abs (inner_product (weights_of n b rows) (pairs_of n b others)) ≤ 18 * (limit * 2 ^ 18)
products_in limit n m b rows others h few k l fits w u =
    let long = weights_long n b others (omega (arith, h, l)) in
    le_trans (inner_within limit (weights_of n b rows) (weights_of n b others)
    (all_within limit n b rows (omega (arith, h, k)) fits (λ c i o. w c i (omega (arith, o, h))))
    (all_within (2 ^ 18) n b others (omega (arith, h, l)) fits (λ c i o. u c i (omega (arith, o, h)))))
    (mul-le (length (weights_of n b others)) (limit * 2 ^ 18) 18 (limit * 2 ^ 18) (omega (arith, long, h, few)) (omega arith))

product_in : (w u : ℤ) → unsigned_abs w ≤ 2 ^ 21 → unsigned_abs u ≤ 2 ^ 18 → unsigned_abs (w *ℤ u) ≤ 2 ^ 39
product_in w u h k = rw (unsigned_abs-mul w u) (mul-le (unsigned_abs w) (unsigned_abs u) (2 ^ 21) (2 ^ 18) h k)

-- two of them, which 64 bits hold
pub pair_in : (row other : List ℤ) (b : ℕ) → b < 8 → ((k : ℕ) → k < 16 → unsigned_abs (lane row k) ≤ 2 ^ 21)
    → ((k : ℕ) → k < 16 → unsigned_abs (lane other k) ≤ 2 ^ 18) → unsigned_abs (pair_sum row other b) < 2 ^ 63
pair_in row other b l w u =
    let first = product_in (lane row (2 * b)) (lane other (2 * b)) (w (2 * b) (omega (arith, l))) (u (2 * b) (omega (arith, l))) in
    let second = product_in (lane row (2 * b + 1)) (lane other (2 * b + 1)) (w (2 * b + 1) (omega (arith, l))) (u (2 * b + 1) (omega (arith, l))) in
    sum_in (lane row (2 * b) *ℤ lane other (2 * b)) (lane row (2 * b + 1) *ℤ lane other (2 * b + 1)) first second
  where
    sum_in : (x y : ℤ) → unsigned_abs x ≤ 2 ^ 39 → unsigned_abs y ≤ 2 ^ 39 → unsigned_abs (x +ℤ y) < 2 ^ 63
    sum_in x y h k = omega (arith, ints, h, k)

-- ---- their update

pub row_updates_none : (f : ℕ) (e : ℤ) (s : Bool) (b : ℕ) (old now others : List (List ℤ))
    → weights_of 0 b now ≡ updated_weights f e s (weights_of 0 b old) (pairs_of 0 b others)
unfolding updated_weights weights_of
row_updates_none f e s b old now others = refl

pub row_updates_more : (f : ℕ) (e : ℤ) (s : Bool) (n b : ℕ) (old now others : List (List ℤ)) (row : List ℤ) → n < length old → n < length now → n < length others
    → pair_of b row ≡ updated_weights f e s (pair_of b (get_or old n [])) (pair_of b (get_or others n []))
    → weights_of n b now ≡ updated_weights f e s (weights_of n b old) (pairs_of n b others)
    → weights_of (n + 1) b (set now n row) ≡ updated_weights f e s (weights_of (n + 1) b old) (pairs_of (n + 1) b others)
row_updates_more f e s n b old now others row h l k p q =
    with_row n b now row l ∙ ap₂ (λ xs ys. xs ++ ys) q p
    ∙ sym (pair_updated f e s (weights_of n b old) (weights_of n b others) _ _ _ _
    (weights_long n b old (omega (arith, h)) ∙ sym (weights_long n b others (omega (arith, k)))))
    ∙ ap₂ (updated_weights f e s) (sym (weights_more n b old h)) (sym (weights_more n b others k))
