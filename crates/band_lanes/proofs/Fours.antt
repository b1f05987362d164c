-- Weights and components of one of four bands, a row more.
use Rattle.std.proofs.Common.{◌≡◌, ℕ, ◌+◌, ◌*◌, ◌^◌, ◌<◌, ◌≤◌, ℤ, pos, ◌+ℤ◌, ◌*ℤ◌, unsigned_abs, Bool, List, [], ◌∷◌, ◌++◌, length, take, map, get_or, set, get_or-take, arith, refl, sym, ap, ap₂, ◌∙◌, subst, add-one, le_trans, pow_mono, pow_pos}
use Rattle.std.proofs.lemmas.List.{length-map, length-take-le, map-append}
use Rattle.std.proofs.lemmas.Nat.{mul-le}
use Rattle.std.proofs.Math.ListN.{get_or-map}
use Rattle.std.proofs.Math.Pow.{pow-add}
use Rattle.std.proofs.Math.Seq.{take-suc, take-suc-set}
use Rattle.lanes.specs.Lanes.{lane, place, halved}
use Rattle.sample_prediction.specs.Bounds.{AllWithin}
use Rattle.sample_prediction.specs.Prediction.{inner_product}
use Rattle.sample_prediction.specs.Weights.{updated_weights, updated_weight}
use Rattle.sample_prediction.proofs.Floors.{floor_within}
use Rattle.sample_prediction.proofs.Inner.{inner_within}
use Rattle.sample_prediction.proofs.Prefixes.{product_more, update_more}
use Rattle.band_lanes.specs.declared.four.rows.Rows.{Rows}
use Rattle.band_lanes.specs.Fours.{column_of, no_rows, row_components}
use Rattle.band_lanes.proofs.Floors.{halved_is}

pub column_long : (n b : ℕ) (rows : List (List ℤ)) → n ≤ length rows → length (column_of n b rows) ≡ n
unfolding column_of
column_long n b rows h = length-map (take n rows) (λ row. lane row b) ∙ length-take-le n rows h

pub column_at : (n b k : ℕ) (rows : List (List ℤ)) → k < n → get_or (column_of n b rows) k (pos 0) ≡ place rows k b
unfolding column_of
column_at n b k rows h = get_or-map (λ row. lane row b) (take n rows) k [] ∙ ap (λ row. lane row b) (get_or-take n rows k [] h)

-- what is in range in so many rows
pub column_in : (limit n b k : ℕ) (rows : List (List ℤ)) → n ≤ length rows → k < n → AllWithin limit (column_of n b rows) → unsigned_abs (place rows k b) ≤ limit
column_in limit n b k rows h l w =
    let long = column_long n b rows h in subst (λ v. unsigned_abs v ≤ limit) (column_at n b k rows l) (w k (omega (arith, long, l)))

pub column_less : (limit n m b : ℕ) (rows : List (List ℤ)) → n ≤ m → m ≤ length rows → AllWithin limit (column_of m b rows) → AllWithin limit (column_of n b rows)
column_less limit n m b rows h l w k i =
    let long = column_long n b rows (omega (arith, h, l)) in let inside : k < n = omega (arith, long, i) in
    subst (λ v. unsigned_abs v ≤ limit) (sym (column_at n b k rows inside)) (column_in limit m b k rows l (omega (arith, inside, h)) w)

pub column_more : (n b : ℕ) (rows : List (List ℤ)) → n < length rows → column_of (n + 1) b rows ≡ column_of n b rows ++ lane (get_or rows n []) b ∷ []
unfolding column_of
column_more n b rows h =
    ap (λ k. map (λ row. lane row b) (take k rows)) (add-one n) ∙ ap (map (λ row. lane row b)) (take-suc rows n [] h)
    ∙ map-append (λ row. lane row b) (take n rows) (get_or rows n [] ∷ [])

column_set : (n b : ℕ) (now : List (List ℤ)) (row : List ℤ) → n < length now → column_of (n + 1) b (set now n row) ≡ column_of n b now ++ lane row b ∷ []
unfolding column_of
column_set n b now row h =
    ap (λ k. map (λ row. lane row b) (take k (set now n row))) (add-one n) ∙ ap (map (λ row. lane row b)) (take-suc-set now n row h)
    ∙ map-append (λ row. lane row b) (take n now) (row ∷ [])

-- ---- components in rows

pub row_components_long : (n b : ℕ) (rows : List Rows) (i : ℕ) → n ≤ length rows → length (row_components n b rows i) ≡ n
unfolding row_components
row_components_long n b rows i h = length-map (take n rows) (λ (r : Rows). place r.places i b) ∙ length-take-le n rows h

component_at : (n b k : ℕ) (rows : List Rows) (i : ℕ) → k < n → get_or (row_components n b rows i) k (pos 0) ≡ place (get_or rows k no_rows).places i b
unfolding row_components
component_at n b k rows i h =
    get_or-map (λ (r : Rows). place r.places i b) (take n rows) k no_rows ∙ ap (λ (r : Rows). place r.places i b) (get_or-take n rows k no_rows h)

pub component_in : (limit n b k : ℕ) (rows : List Rows) (i : ℕ) → n ≤ length rows → k < n → AllWithin limit (row_components n b rows i)
    → unsigned_abs (place (get_or rows k no_rows).places i b) ≤ limit
component_in limit n b k rows i h l w =
    let long = row_components_long n b rows i h in subst (λ v. unsigned_abs v ≤ limit) (component_at n b k rows i l) (w k (omega (arith, long, l)))

pub components_less : (limit n m b : ℕ) (rows : List Rows) (i : ℕ) → n ≤ m → m ≤ length rows → AllWithin limit (row_components m b rows i)
    → AllWithin limit (row_components n b rows i)
components_less limit n m b rows i h l w k j =
    let long = row_components_long n b rows i (omega (arith, h, l)) in let inside : k < n = omega (arith, long, j) in
    subst (λ v. unsigned_abs v ≤ limit) (sym (component_at n b k rows i inside)) (component_in limit m b k rows i l (omega (arith, inside, h)) w)

components_more : (n b : ℕ) (rows : List Rows) (i : ℕ) → n < length rows
    → row_components (n + 1) b rows i ≡ row_components n b rows i ++ place (get_or rows n no_rows).places i b ∷ []
unfolding row_components
components_more n b rows i h =
    ap (λ k. map (λ (r : Rows). place r.places i b) (take k rows)) (add-one n) ∙ ap (map (λ (r : Rows). place r.places i b)) (take-suc rows n no_rows h)
    ∙ map-append (λ (r : Rows). place r.places i b) (take n rows) (get_or rows n no_rows ∷ [])

same_length : (n b : ℕ) (rows : List (List ℤ)) (others : List Rows) (i : ℕ) → n ≤ length rows → n ≤ length others
    → length (column_of n b rows) ≡ length (row_components n b others i)
same_length n b rows others i h k = column_long n b rows h ∙ sym (row_components_long n b others i k)

-- ---- their products

pub products_none : (b : ℕ) (rows : List (List ℤ)) (others : List Rows) (i : ℕ) → inner_product (column_of 0 b rows) (row_components 0 b others i) ≡ pos 0
unfolding inner_product column_of row_components
products_none b rows others i = refl

pub products_more : (n b : ℕ) (rows : List (List ℤ)) (others : List Rows) (i : ℕ) → n < length rows → n < length others
    → inner_product (column_of (n + 1) b rows) (row_components (n + 1) b others i)
    ≡ inner_product (column_of n b rows) (row_components n b others i) +ℤ place rows n b *ℤ place (get_or others n no_rows).places i b
products_more n b rows others i h k =
    ap₂ inner_product (column_more n b rows h) (components_more n b others i k)
    ∙ product_more (column_of n b rows) (row_components n b others i) _ _ (same_length n b rows others i (omega (arith, h)) (omega (arith, k)))

pub products_in : (fraction n b : ℕ) (rows : List (List ℤ)) (others : List Rows) (i : ℕ) → n ≤ 18 → n ≤ length others
    → AllWithin (2 ^ (fraction + 2)) (column_of n b rows) → AllWithin (2 ^ 18) (row_components n b others i)
    → unsigned_abs (inner_product (column_of n b rows) (row_components n b others i)) ≤ 18 * (2 ^ (fraction + 2) * 2 ^ 18)
products_in fraction n b rows others i few h w u =
    let long = row_components_long n b others i h in
    le_trans (inner_within (2 ^ (fraction + 2)) (column_of n b rows) (row_components n b others i) w u)
    (mul-le (length (row_components n b others i)) (2 ^ (fraction + 2) * 2 ^ 18) 18 (2 ^ (fraction + 2) * 2 ^ 18) (omega (arith, long, few)) (omega arith))

-- 64 bits hold them
pub long_enough : (fraction : ℕ) (v : ℤ) → fraction ≤ 19 → unsigned_abs v ≤ 18 * (2 ^ (fraction + 2) * 2 ^ 18) → unsigned_abs v < 2 ^ 63
long_enough fraction v most h =
    let few : fraction + 2 ≤ 21 = omega (arith, most) in let power : 2 ^ (fraction + 2) ≤ 2 ^ 21 = pow_mono few in omega (arith, h, power)

-- and 32 bits their quotients
pub quotient_in : (fraction : ℕ) (v : ℤ) → unsigned_abs v ≤ 18 * (2 ^ (fraction + 2) * 2 ^ 18) → unsigned_abs (halved v fraction) ≤ 18 * 2 ^ 20
quotient_in fraction v h =
    let e : 2 ^ (fraction + 2) ≡ 2 ^ fraction * 2 ^ 2 = pow-add 2 fraction 2 in
    rw (halved_is v fraction) (floor_within v (18 * 2 ^ 20) (2 ^ fraction) (pow_pos fraction) (omega (arith, e, h)))

-- ---- their update

pub updates_none : (f : ℕ) (e : ℤ) (s : Bool) (b : ℕ) (old now : List (List ℤ)) (us : List Rows) (i : ℕ)
    → column_of 0 b now ≡ updated_weights f e s (column_of 0 b old) (row_components 0 b us i)
unfolding updated_weights column_of row_components
updates_none f e s b old now us i = refl

pub updates_more : (f : ℕ) (e : ℤ) (s : Bool) (n b : ℕ) (old now : List (List ℤ)) (us : List Rows) (i : ℕ) (row : List ℤ)
    → n < length old → n < length now → n < length us
    → lane row b ≡ updated_weight f e s (place old n b) (place (get_or us n no_rows).places i b)
    → column_of n b now ≡ updated_weights f e s (column_of n b old) (row_components n b us i)
    → column_of (n + 1) b (set now n row) ≡ updated_weights f e s (column_of (n + 1) b old) (row_components (n + 1) b us i)
updates_more f e s n b old now us i row h l k p q =
    column_set n b now row l ∙ ap₂ (λ xs x. xs ++ x ∷ []) q p
    ∙ sym (update_more f e s (column_of n b old) (row_components n b us i) _ _ (same_length n b old us i (omega (arith, h)) (omega (arith, k))))
    ∙ ap₂ (updated_weights f e s) (sym (column_more n b old h)) (sym (components_more n b us i k))
