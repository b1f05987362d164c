-- How large a sum of products can be.
use Rattle.std.proofs.Common.{◌*◌, ◌^◌, ◌≤◌, ℕ, suc, ℤ, pos, ◌*ℤ◌, unsigned_abs, List, [], ◌∷◌, length, take, arith, le_trans, length-take}
use Rattle.std.proofs.lemmas.Int.{ints, unsigned_abs-mul}
use Rattle.std.proofs.lemmas.Nat.{mul-le}
use Rattle.std.proofs.lemmas.List.{get_or-take}
use Rattle.sample_prediction.specs.Prediction.{inner_product}
use Rattle.sample_prediction.specs.Bounds.{AllWithin}

within_tail : (n : ℕ) (x : ℤ) (xs : List ℤ) → AllWithin n (x ∷ xs) → AllWithin n xs
within_tail n x xs h i l = h (suc i) (omega (arith, l))

pub within_take : (n k : ℕ) (xs : List ℤ) → AllWithin n xs → AllWithin n (take k xs)
within_take n k xs h i l = let e = length-take k xs in rw (get_or-take k xs i (pos 0) (omega (arith, l, e))) (h i (omega (arith, l, e)))

pub inner_within : (n : ℕ) (ws us : List ℤ) → AllWithin n ws → AllWithin (2 ^ 18) us → unsigned_abs (inner_product ws us) ≤ length us * (n * 2 ^ 18)
unfolding inner_product
inner_within n [] us h k = omega arith
inner_within n (w ∷ ws) [] h k = omega arith
inner_within n (w ∷ ws) (u ∷ us) h k =
    let product = product_within n w u (h 0 (omega arith)) (k 0 (omega arith)) in
    let rest = inner_within n ws us (within_tail n w ws h) (within_tail (2 ^ 18) u us k) in omega (arith, ints, product, rest)
  where
    product_within : (n : ℕ) (w u : ℤ) → unsigned_abs w ≤ n → unsigned_abs u ≤ 2 ^ 18 → unsigned_abs (w *ℤ u) ≤ n * 2 ^ 18
    product_within n w u h k = rw (unsigned_abs-mul w u) (mul-le (unsigned_abs w) (unsigned_abs u) n (2 ^ 18) h k)

-- of the first so many
pub first_within : (n k : ℕ) (ws us : List ℤ) → k ≤ 18 → AllWithin n ws → AllWithin (2 ^ 18) us
    → unsigned_abs (inner_product (take k ws) (take k us)) ≤ 18 * (n * 2 ^ 18)
first_within n k ws us few h l =
    let e = length-take k us in le_trans (inner_within n (take k ws) (take k us) (within_take n k ws h) (within_take (2 ^ 18) k us l))
    (mul-le (length (take k us)) (n * 2 ^ 18) 18 (n * 2 ^ 18) (omega (arith, e)) (omega arith))
