-- The weights that a table tells, and where those of a band stand.
use Rattle.std.proofs.Common.{◌≡◌, ◌+◌, ◌-◌, ◌*◌, ◌/◌, ◌%◌, ◌^◌, ◌<◌, ◌≤◌, ℕ, zero, suc, ℤ, pos, negsuc, neg_ℤ, ◌+ℤ◌, ◌-ℤ◌, ◌*ℤ◌, ◌≤ℤ◌, unsigned_abs, SFits}
use Rattle.std.proofs.Common.{w32, to_z, of_z, to_z-of_z, Bool, List, [], ◌∷◌, length, take, drop, map, min, nat_le, get_or, set, ◌++◌}
use Rattle.std.proofs.Common.{inl, inr, length-take, length-drop, add-one, arith, refl, ◌∙◌, sym, ap, pow_mono, if◌then◌else◌}
use Rattle.std.proofs.Math.Pow.{pow-add}
use Rattle.std.proofs.Math.Seq.{take-suc}
use Rattle.std.proofs.lemmas.List.{take_more_set, map-append}
use Rattle.std.proofs.lemmas.Int.{ints, to_z_pos, fits_signed_from_abs, unsigned_abs-mul}
use Rattle.std.proofs.lemmas.Nat.{mul-le, pow_pos}
use Rattle.std.proofs.lemmas.Bool.{cases_Bool, cases_lt}
use Rattle.std.specs.List.{AllByRecursion}
use Rattle.header_bits.specs.declared.params.Params.{Params}
use Rattle.header_bits.specs.TableParts.{weight_count}
use Rattle.header_bits.specs.declared.params.WeightStart.TheVariants.{Table}
use Rattle.cube_core.specs.Shape.{InRange}
use Rattle.header_bits.specs.Lawful.{IsLawful, IsSigned, IsWeightStart}
use Rattle.sample_prediction.specs.declared.predictor.Predictor.{Predictor}
use Rattle.sample_prediction.specs.Predictor.{predictor_of, component_count}
use Rattle.sample_prediction.specs.Weights.{table_weight, table_weights, weights_by, start_weights, entries_before}
use Rattle.sample_prediction.specs.Bounds.{AllWithin}
use Rattle.sample_prediction.proofs.Wrapping.{remainder_is}
use Rattle.sample_prediction.proofs.Starting.{count_is}
use Rattle.sample_prediction.proofs.Directions.{reduced_count, full_count}

-- the ones that stand below the bits of an entry
abbrev pub ones_below : ℕ → ℕ → ℕ
ones_below f q = if nat_le q (f + 2) then 2 ^ (f + 2 - q) - 1 else 0

ones_small : (f q : ℕ) → q ≤ f + 3 → ones_below f q + 1 ≤ 2 ^ (f + 3 - q)
ones_small f q h =
    let s : 1 ≤ 2 ^ (f + 3 - q) = pow_pos (f + 3 - q) in let t : 1 ≤ 2 ^ (f + 2 - q) = pow_pos (f + 2 - q) in elim (cases_Bool (nat_le q (f + 2))) [
      | inl e ↦ (let p : 2 ^ (f + 2 - q) ≤ 2 ^ (f + 3 - q) = pow_mono (omega arith) in rw e (omega (arith, p, t)))
      | inr e ↦ rw e s
    ]

-- the scale of an entry and its own range make up a weight's range
powers_meet : (f q : ℕ) → 3 ≤ q → q ≤ f + 3 → 2 ^ (f + 3 - q) * 2 ^ (q - 1) ≡ 2 ^ (f + 2)
powers_meet f q l h = sym (pow-add 2 (f + 3 - q) (q - 1)) ∙ ap (λ k. 2 ^ k) (omega arith)

product_small : (scale half : ℕ) (e : ℤ) → unsigned_abs e ≤ half → unsigned_abs (pos scale *ℤ e) ≤ scale * half
product_small scale half e h = rw (unsigned_abs-mul (pos scale) e) (mul-le scale (unsigned_abs e) scale half (omega arith) h)

signed_small : (q : ℕ) (e : ℤ) → IsSigned q e → unsigned_abs e ≤ 2 ^ (q - 1)
signed_small q e h = let low = h.0 in let high = h.1 in omega (arith, ints, low, high)

sum_small : (scale half ones : ℕ) (e : ℤ) → e ≤ℤ (pos half -ℤ pos 1) → neg_ℤ (pos half) ≤ℤ e → ones + 1 ≤ scale
    → unsigned_abs (pos scale *ℤ e +ℤ pos ones) ≤ scale * half
sum_small scale half ones (pos n) high low small =
    let m : scale * (n + 1) ≤ scale * half = mul-le scale (n + 1) scale half (omega arith) (omega (arith, ints, high)) in omega (arith, ints, m, small)
sum_small scale half ones (negsuc n) high low small =
    let m : scale * (n + 1) ≤ scale * half = mul-le scale (n + 1) scale half (omega arith) (omega (arith, ints, low)) in omega (arith, ints, m, small)

pub table_small : (f q : ℕ) (e : ℤ) → 3 ≤ q → q ≤ f + 3 → IsSigned q e → unsigned_abs (table_weight f q e) ≤ 2 ^ (f + 2)
table_small f q e l h signed =
    let s = sum_small (2 ^ (f + 3 - q)) (2 ^ (q - 1)) (ones_below f q) e signed.1 signed.0 (ones_small f q h) in rw (powers_meet f q l h) at s

pub power_kept : (k : ℕ) → k ≤ 21 → to_z w32 (1 * 2 ^ k % 2 ^ 32) ≡ pos (2 ^ k)
power_kept k h =
    let p : 2 ^ k ≤ 2 ^ 21 = pow_mono h in
    rw (remainder_is (1 * 2 ^ k) (2 ^ 32) 0 (2 ^ k) (omega (arith, p)) (omega arith)) (to_z_pos w32 (2 ^ k) (omega (arith, p)))

module _ (f q : ℕ) (e : ℤ) (most : f ≤ 19) (least : 3 ≤ q) (high : q ≤ f + 3) (signed : IsSigned q e) where
  limit : 2 ^ (f + 2) ≤ 2 ^ 21
  limit = pow_mono {j = 21} (omega (arith, most))

  pub product_fits : SFits w32 (e *ℤ pos (2 ^ (f + 3 - q)))
  product_fits =
      let p = rw (powers_meet f q least high) at (product_small (2 ^ (f + 3 - q)) (2 ^ (q - 1)) e (signed_small q e signed)) in
      let s : unsigned_abs (e *ℤ pos (2 ^ (f + 3 - q))) ≤ 2 ^ 21 = omega (arith, ints, p, limit) in
      fits_signed_from_abs w32 (e *ℤ pos (2 ^ (f + 3 - q))) (omega (arith, s))

  pub weight_is : e *ℤ pos (2 ^ (f + 3 - q)) +ℤ pos (ones_below f q) ≡ table_weight f q e
  weight_is = omega (arith, ints)

  pub weight_fits : SFits w32 (table_weight f q e)
  weight_fits = let s = table_small f q e least high signed in fits_signed_from_abs w32 (table_weight f q e) (omega (arith, s, limit))

pub power_fits : (k : ℕ) → k ≤ 21 → SFits w32 (pos (2 ^ k))
power_fits k h = let p : 2 ^ k ≤ 2 ^ 21 = pow_mono h in fits_signed_from_abs w32 (pos (2 ^ k)) (omega (arith, p))

pub scale_small : (f q : ℕ) → f ≤ 19 → 3 ≤ q → f + 3 - q ≤ 21
scale_small f q h l = omega arith

pub ones_fit : (f q : ℕ) → f ≤ 19 → SFits w32 (pos (ones_below f q))
ones_fit f q h =
    let p : 2 ^ (f + 2 - q) ≤ 2 ^ 21 = pow_mono {j = 21} (omega (arith, h)) in elim (cases_Bool (nat_le q (f + 2))) [
      | inl e ↦ rw e (fits_signed_from_abs w32 (pos (2 ^ (f + 2 - q) - 1)) (omega (arith, p)))
      | inr e ↦ rw e (fits_signed_from_abs w32 (pos 0) (omega arith))
    ]

-- one weight more is written
pub told_next : (f q i : ℕ) (ws entries : List ℤ) (w : ℤ) → i < length ws → i < length entries → w ≡ table_weight f q (get_or entries i (pos 0))
    → take i ws ≡ map (table_weight f q) (take i entries)
    → take (i + 1) (set ws i w) ≡ map (table_weight f q) (take (i + 1) entries)
told_next f q i ws entries w l m is told =
    let a : take (i + 1) entries ≡ take i entries ++ get_or entries i (pos 0) ∷ [] = rw add-one (take-suc entries i (pos 0) m) in
    take_more_set ws i w l ∙ rw (told, a, map-append (table_weight f q) (take i entries) (get_or entries i (pos 0) ∷ []), is) refl

pub entry_fits : (f q : ℕ) (e : ℤ) → f ≤ 19 → q ≤ f + 3 → IsSigned q e → SFits w32 e
entry_fits f q e h l signed =
    let p : 2 ^ (q - 1) ≤ 2 ^ 21 = pow_mono {j = 21} (omega (arith, h, l)) in let s : unsigned_abs e ≤ 2 ^ (q - 1) = signed_small q e signed in
    fits_signed_from_abs w32 e (omega (arith, p, s))

pub entry_signed : (q : ℕ) (es : List ℤ) (i : ℕ) → AllByRecursion (IsSigned q) es → i < length es → IsSigned q (get_or es i (pos 0))
entry_signed q [] i all l = absurd (omega (arith, l))
entry_signed q (e ∷ es) zero all l = all.0
entry_signed q (e ∷ es) (suc i) all l = entry_signed q es i all.1 (omega (arith, l))

pub read_entry : (f q : ℕ) (es : List ℤ) (i : ℕ) → f ≤ 19 → q ≤ f + 3 → AllByRecursion (IsSigned q) es → i < length es
    → to_z w32 (of_z w32 (get_or es i (pos 0))) ≡ get_or es i (pos 0)
read_entry f q es i h l all m = to_z-of_z (entry_fits f q (get_or es i (pos 0)) h l (entry_signed q es i all m))

-- ---- where the entries of a band stand

mul_two : (m : ℕ) → (suc m + 1) * suc m ≡ suc m * m + 2 * suc m
mul_two m = grind arith

-- the numbers below n, summed
triangle_next : (n : ℕ) → (n + 1) * (n + 1 - 1) / 2 ≡ n * (n - 1) / 2 + n
triangle_next zero = refl
triangle_next (suc m) =
    let up : suc m + 1 - 1 ≡ suc m = omega arith in let down : suc m - 1 ≡ m = omega arith in
    let two : (suc m + 1) * suc m ≡ suc m * m + 2 * suc m = mul_two m in rw (up, down, two) (omega arith)

-- so many entries stand in front of band z
abbrev pub in_front : ℕ → ℕ → ℕ → ℕ
in_front first most z = z * first + min z most * (min z most - 1) / 2 + (z - min z most) * most

pub in_front_is : (p : Predictor) (first : ℕ) → first ≡ (if p.reduced then 0 else 3) → (z : ℕ) → in_front first p.previous z ≡ entries_before p z
unfolding entries_before
in_front_is p first f zero = let n : min 0 p.previous ≡ 0 = omega arith in rw n (grind arith)
in_front_is p first f (suc z) =
    let before = in_front_is p first f z in let count : first + min z p.previous ≡ component_count p z = count_is p z first f in elim (cases_lt z p.previous) [
      | inl close ↦ (let near : min z p.previous ≡ z = omega (arith, close) in
          let next : min (suc z) p.previous ≡ z + 1 = omega (arith, close) in let t = triangle_next z in
          let b = rw near at before in let k = rw near at count in rw (near, next) (grind (arith, b, k, t)))
      | inr far_off ↦ (let near : min z p.previous ≡ p.previous = omega (arith, far_off) in
          let next : min (suc z) p.previous ≡ p.previous = omega (arith, far_off) in
          let far : suc z - p.previous ≡ (z - p.previous) + 1 = omega (arith, far_off) in let b = rw near at before in let k = rw near at count in
          rw (near, next, far) (grind (arith, b, k)))
    ]

-- the table has as many entries as all bands have weights
pub counts_agree : (p : Params) (z : ℕ) → entries_before (predictor_of p) z ≡ weight_count p.previous p.reduced z
unfolding entries_before weight_count
counts_agree p zero = refl
counts_agree p (suc z) =
    let before = counts_agree p z in elim (cases_Bool p.reduced) [
      | inl e ↦ (let count = reduced_count (predictor_of p) z e in let none : ◌≡◌ {A = ℕ} (if p.reduced then 0 else 3) 0 = rw e refl in
          omega (arith, before, count, none))
      | inr e ↦ (let count = full_count (predictor_of p) z e in let three : ◌≡◌ {A = ℕ} (if p.reduced then 0 else 3) 3 = rw e refl in
          omega (arith, before, count, three))
    ]

counts_grow : (previous : ℕ) (reduced : Bool) (z n : ℕ) → weight_count previous reduced z ≤ weight_count previous reduced (n + z)
unfolding weight_count
counts_grow previous reduced z zero = let e : 0 + z ≡ z = omega arith in rw e (omega arith)
counts_grow previous reduced z (suc n) = let g = counts_grow previous reduced z n in let e : suc n + z ≡ suc (n + z) = omega arith in rw e (omega (arith, g))

-- the entries of a band are there
pub entries_there : (p : Params) (z : ℕ) → z < p.shape.bands
    → entries_before (predictor_of p) z + component_count (predictor_of p) z ≤ weight_count p.previous p.reduced p.shape.bands
unfolding entries_before
entries_there p z l =
    let g = counts_grow p.previous p.reduced (suc z) (p.shape.bands - suc z) in
    let same : p.shape.bands - suc z + suc z ≡ p.shape.bands = omega (arith, l) in let agree = counts_agree p (suc z) in rw (← agree, same) at g

signed_taken : (q n : ℕ) (es : List ℤ) → AllByRecursion (IsSigned q) es → AllByRecursion (IsSigned q) (take n es)
signed_taken q zero es s = tt
signed_taken q (suc n) [] s = tt
signed_taken q (suc n) (e ∷ es) s = (s.0, signed_taken q n es s.1)

signed_dropped : (q n : ℕ) (es : List ℤ) → AllByRecursion (IsSigned q) es → AllByRecursion (IsSigned q) (drop n es)
signed_dropped q zero es s = s
signed_dropped q (suc n) [] s = tt
signed_dropped q (suc n) (e ∷ es) s = signed_dropped q n es s.1

-- the entries of one band are signed numbers
pub signed_between : (q m n : ℕ) (es : List ℤ) → AllByRecursion (IsSigned q) es → AllByRecursion (IsSigned q) (take n (drop m es))
signed_between q m n es all = signed_taken q n (drop m es) (signed_dropped q m es all)

tables_within : (f q : ℕ) (es : List ℤ) → 3 ≤ q → q ≤ f + 3 → AllByRecursion (IsSigned q) es → AllWithin (2 ^ (f + 2)) (map (table_weight f q) es)
tables_within f q [] l h all = λ i m. absurd (omega (arith, m))
tables_within f q (e ∷ es) l h all = one_more (tables_within f q es l h all.1)
  where
    one_more : AllWithin (2 ^ (f + 2)) (map (table_weight f q) es) → AllWithin (2 ^ (f + 2)) (map (table_weight f q) (e ∷ es))
    one_more rest zero m = table_small f q e l h all.0
    one_more rest (suc i) m = rest i (omega (arith, m))

-- lawful weights to start from are small, from a table too
pub table_within : (p : Params) (q : ℕ) (values : List ℤ) (z : ℕ) → 3 ≤ q → q ≤ p.omega + 3 → AllByRecursion (IsSigned q) values
    → AllWithin (2 ^ (p.omega + 2)) (table_weights (predictor_of p) q values z)
unfolding table_weights
table_within p q values z l h all =
    tables_within p.omega q (take (component_count (predictor_of p) z) (drop (entries_before (predictor_of p) z) values)) l h
    (signed_between q (entries_before (predictor_of p) z) (component_count (predictor_of p) z) values all)

module _ (p : Params) (lawful : IsLawful p) (z : ℕ) (band : z < p.shape.bands) (q : ℕ) (values : List ℤ) (table : p.start ≡ Table q values) where
  is_start : IsWeightStart p (Table q values)
  is_start = rw table at lawful.start

  pub table_bits : InRange 3 (p.omega + 3) q
  table_bits = is_start.0

  pub table_signed : AllByRecursion (IsSigned q) values
  table_signed = is_start.2

  pub table_long : entries_before (predictor_of p) z + component_count (predictor_of p) z ≤ length values
  table_long = let there = entries_there p z band in rw is_start.1 there

-- the weights that the entries of a band tell are those that the parameters tell
pub table_told : (p : Params) (z : ℕ) (q : ℕ) (values : List ℤ) → p.start ≡ Table q values → (first near from : ℕ) (entries weights : List ℤ)
    → first + near ≡ component_count (predictor_of p) z
    → from ≡ entries_before (predictor_of p) z → entries ≡ take (first + near) (drop from values) → from + (first + near) ≤ length values
    → take (length entries) weights ≡ map (table_weight p.omega q) entries → take (first + near) weights ≡ start_weights p z
unfolding weights_by table_weights
table_told p z q values table first near from entries weights count front are long told =
    let size : length entries ≡ first + near = rw (are, length-take, length-drop) (omega (arith, long)) in
    let all_told : take (first + near) weights ≡ map (table_weight p.omega q) entries = rw size at told in
    rw table (all_told ∙ ap (map (table_weight p.omega q)) (rw (are, count, front) refl))
