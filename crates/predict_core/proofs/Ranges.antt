-- How large the differences of a cube's samples can be.
use Rattle.std.proofs.Common.{◌≡◌, ◌+◌, ◌-◌, ◌*◌, ◌^◌, ◌<◌, ◌≤◌, ℕ, zero, suc, ℤ, pos, ◌-ℤ◌, ◌*ℤ◌, unsigned_abs, false, List, [], ◌∷◌}
use Rattle.std.proofs.Common.{◌++◌, replicate, inl, inr, arith, sym, subst}
use Rattle.std.proofs.lemmas.Int.{ints}
use Rattle.std.proofs.lemmas.Bool.{cases_eq, cases_Bool}
use Rattle.cube_core.specs.Kind.{smin, smax, IsSample}
use Rattle.cube_core.specs.Image.{Image, IsCube, IsPlace, sample_at, index_in}
use Rattle.cube_core.proofs.Bounds.{index_below}
use Rattle.sample_prediction.specs.declared.predictor.Predictor.{Predictor}
use Rattle.sample_prediction.specs.Predictor.{previous_bands}
use Rattle.sample_prediction.specs.LocalSum.{local_sum}
use Rattle.sample_prediction.specs.Differences.{central_difference, directional_differences, spectral_differences, difference_vector, difference_from}
use Rattle.sample_prediction.specs.Mapping.{Between}
use Rattle.sample_prediction.specs.Bounds.{AllWithin}
use Rattle.sample_prediction.proofs.Spans.{span}
use Rattle.sample_prediction.proofs.LocalSums.{sum_in_first_row, sum_by_column, sum_at_left, sum_at_right, sum_inside}
use Rattle.sample_prediction.proofs.Directions.{directional_first, directional_left, directional_inside, reduced_vector_is, full_vector_is, zeros_within}

pub within_append : (n : ℕ) (xs ys : List ℤ) → AllWithin n xs → AllWithin n ys → AllWithin n (xs ++ ys)
within_append n [] ys h k i l = k i l
within_append n (x ∷ xs) ys h k zero l = h 0 (omega arith)
within_append n (x ∷ xs) ys h k (suc i) l = within_append n xs ys (λ j m. h (suc j) (omega (arith, m))) k i (omega (arith, l))

within_one : (n : ℕ) (x : ℤ) → unsigned_abs x ≤ n → AllWithin n (x ∷ [])
within_one n x h zero l = h
within_one n x h (suc i) l = absurd (omega (arith, l))

pub within_three : (n : ℕ) (a b d : ℤ) → unsigned_abs a ≤ n → unsigned_abs b ≤ n → unsigned_abs d ≤ n → AllWithin n (a ∷ b ∷ d ∷ [])
within_three n a b d h k l zero m = h
within_three n a b d h k l (suc zero) m = k
within_three n a b d h k l (suc (suc zero)) m = l
within_three n a b d h k l (suc (suc (suc i))) m = absurd (omega (arith, m))

pub within_none : (n : ℕ) → AllWithin n []
within_none n i l = absurd (omega (arith, l))

pub apart : (low high a s : ℤ) (power : ℕ) → high -ℤ low ≡ pos power -ℤ pos 1 → Between low high a → Between (pos 4 *ℤ low) (pos 4 *ℤ high) s
    → unsigned_abs (pos 4 *ℤ a -ℤ s) ≤ 4 * power
apart low high a s power e h k = omega (arith, ints, e, h.0, h.1, k.0, k.1)

apart_below : (low high a s : ℤ) (power : ℕ) → high -ℤ low ≡ pos power -ℤ pos 1 → Between low high a → Between (pos 4 *ℤ low) (pos 4 *ℤ high) s
    → unsigned_abs (pos 4 *ℤ a -ℤ s) ≤ 4 * power - 1
apart_below low high a s power e h k = omega (arith, ints, e, h.0, h.1, k.0, k.1)

pub sample_within : (c : Image) → IsCube c → (z y x : ℕ) → IsPlace c.shape z y x → IsSample c.kind (sample_at c z y x)
unfolding sample_at
sample_within c cube z y x q =
    cube.range (index_in c.shape.columns c.shape.rows z y x)
    (rw cube.whole (index_below c.shape.columns c.shape.rows c.shape.bands z y x q.band q.row q.column))

module _ (p : Predictor) (c : Image) (cube : IsCube c) (y x : ℕ) (later : 0 < y + x) (wide : p.column ≡ false → 2 ≤ c.shape.columns) where
  module _ (z : ℕ) (place : IsPlace c.shape z y x) where
    up : (x' : ℕ) → x' < c.shape.columns → IsSample c.kind (sample_at c z (y - 1) x')
    up x' h = sample_within c cube z (y - 1) x' (record { band = place.band; row = (let r = place.row in omega arith); column = h })

    left : IsSample c.kind (sample_at c z y (x - 1))
    left = sample_within c cube z y (x - 1) (record { band = place.band; row = place.row; column = (let q = place.column in omega arith) })

    column : x < c.shape.columns
    column = place.column

    before : x - 1 < c.shape.columns
    before = let q = place.column in omega arith

    pub sum_within : Between (pos 4 *ℤ smin c.kind) (pos 4 *ℤ smax c.kind) (local_sum p c z y x)
    sum_within =
        let l = left in let u = up x column in let b = up (x - 1) before in elim (cases_eq y 0) [
          | inl e ↦ rw (sum_in_first_row p c z y x e) (omega (arith, ints, l.0, l.1), omega (arith, ints, l.0, l.1))
          | inr n ↦ elim (cases_Bool p.column) [
            | inl e ↦ rw (sum_by_column p c z y x n e) (omega (arith, ints, u.0, u.1), omega (arith, ints, u.0, u.1))
            | inr e ↦ (let w = wide e in elim (cases_eq x 0) [
              | inl h ↦ (let d = up (x + 1) (omega arith) in
                  rw (sum_at_left p c z y x n e h) (omega (arith, ints, u.0, u.1, d.0, d.1), omega (arith, ints, u.0, u.1, d.0, d.1)))
              | inr h ↦ elim (cases_eq (x + 1) c.shape.columns) [
                | inl r ↦ rw (sum_at_right p c z y x n e h r)
                    (omega (arith, ints, l.0, l.1, b.0, b.1, u.0, u.1), omega (arith, ints, l.0, l.1, b.0, b.1, u.0, u.1))
                | inr r ↦ (let q = column in let d = up (x + 1) (omega arith) in rw (sum_inside p c z y x n e h r)
                    (omega (arith, ints, l.0, l.1, b.0, b.1, u.0, u.1, d.0, d.1), omega (arith, ints, l.0, l.1, b.0, b.1, u.0, u.1, d.0, d.1)))
              ]
            ])
          ]
        ]

    difference_below : (sample : ℤ) → IsSample c.kind sample → unsigned_abs (difference_from p c z y x sample) ≤ 4 * 2 ^ c.kind.bits - 1
    difference_below sample h = apart_below (smin c.kind) (smax c.kind) sample (local_sum p c z y x) (2 ^ c.kind.bits) (span c.kind cube.bits) h sum_within

    pub central_below : unsigned_abs (central_difference p c z y x) ≤ 4 * 2 ^ c.kind.bits - 1
    unfolding central_difference
    central_below = difference_below (sample_at c z y x) (sample_within c cube z y x place)

    pub central_within : unsigned_abs (central_difference p c z y x) ≤ 4 * 2 ^ c.kind.bits
    central_within = let h = central_below in omega (arith, h)

    pub directional_below : AllWithin (4 * 2 ^ c.kind.bits - 1) (directional_differences p c z y x)
    directional_below =
        elim (cases_eq y 0) [
          | inl e ↦ rw (directional_first p c z y x e) (within_three (4 * 2 ^ c.kind.bits - 1) (pos 0) (pos 0) (pos 0) (omega arith) (omega arith) (omega arith))
          | inr n ↦ elim (cases_eq x 0) [
            | inl h ↦ (let d = difference_below _ (up x column) in rw (directional_left p c z y x n h) (within_three (4 * 2 ^ c.kind.bits - 1) _ _ _ d d d))
            | inr h ↦ rw (directional_inside p c z y x n h) (within_three (4 * 2 ^ c.kind.bits - 1) _ _ _ (difference_below _ (up x column))
                (difference_below _ left) (difference_below _ (up (x - 1) before)))
          ]
        ]

    pub directional_within : AllWithin (4 * 2 ^ c.kind.bits) (directional_differences p c z y x)
    directional_within i l = let h = directional_below i l in omega (arith, h)

  module _ (z : ℕ) (place : IsPlace c.shape z y x) where
    pub spectral_below : (n : ℕ) → n ≤ z → AllWithin (4 * 2 ^ c.kind.bits - 1) (spectral_differences p c z y x n)
    unfolding spectral_differences
    spectral_below zero h = within_none (4 * 2 ^ c.kind.bits - 1)
    spectral_below (suc n) h =
        within_append (4 * 2 ^ c.kind.bits - 1) (spectral_differences p c z y x n) (central_difference p c (z - suc n) y x ∷ []) (spectral_below n (omega arith))
        (within_one (4 * 2 ^ c.kind.bits - 1) _
        (central_below (z - suc n) (record { band = (let b = place.band in omega arith); row = place.row; column = place.column })))

    pub vector_below : AllWithin (4 * 2 ^ c.kind.bits - 1) (difference_vector p c z y x)
    vector_below =
        let s = spectral_below (previous_bands p z) (omega arith) in elim (cases_Bool p.reduced) [
          | inl e ↦ subst (AllWithin (4 * 2 ^ c.kind.bits - 1)) (sym (reduced_vector_is p c z y x e)) s
          | inr e ↦ subst (AllWithin (4 * 2 ^ c.kind.bits - 1)) (sym (full_vector_is p c z y x e)) (within_append _ _ _ (directional_below z place) s)
        ]

    pub spectral_within : (n : ℕ) → n ≤ z → AllWithin (4 * 2 ^ c.kind.bits) (spectral_differences p c z y x n)
    spectral_within n m i l = let h = spectral_below n m i l in omega (arith, h)

    pub vector_within : AllWithin (4 * 2 ^ c.kind.bits) (difference_vector p c z y x)
    vector_within i l = let h = vector_below i l in omega (arith, h)

    pub padded_within : (m : ℕ) → AllWithin (4 * 2 ^ c.kind.bits) (difference_vector p c z y x ++ replicate m (pos 0))
    padded_within m =
        within_append (4 * 2 ^ c.kind.bits) (difference_vector p c z y x) (replicate m (pos 0)) vector_within (zeros_within (4 * 2 ^ c.kind.bits) m)
