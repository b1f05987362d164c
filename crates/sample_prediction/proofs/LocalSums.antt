-- The local sum, case by case, from samples and from offsets.
use Rattle.std.proofs.Common.{◌≡◌, ◌≢◌, ◌+◌, ◌-◌, ◌*◌, ◌<◌, ◌≤◌, ℕ, ℤ, pos, ◌+ℤ◌, ◌-ℤ◌, ◌*ℤ◌, Bool, true, false, List, length, get_or, inl, inr, arith}
use Rattle.std.proofs.Common.{◌∙◌, sym}
use Rattle.std.proofs.lemmas.Int.{ints}
use Rattle.std.proofs.lemmas.Bool.{cases_eq, cases_Bool}
use Rattle.std.proofs.lemmas.Bool.Decides.{nat_tests}
use Rattle.cube_core.specs.Kind.{smin}
use Rattle.cube_core.specs.Image.{Image, sample_at}
use Rattle.cube_core.specs.Offsets.{AreRowOffsets}
use Rattle.sample_prediction.specs.declared.predictor.Predictor.{Predictor}
use Rattle.sample_prediction.specs.LocalSum.{local_sum}
use Rattle.sample_prediction.specs.Differences.{central_difference, difference_from}
use Rattle.sample_prediction.specs.OffsetSum.{offset_sum, offset_difference}

-- ---- from samples

pub sum_in_first_row : (p : Predictor) (c : Image) (z y x : ℕ) → y ≡ 0 → local_sum p c z y x ≡ pos 4 *ℤ sample_at c z y (x - 1)
unfolding local_sum
sum_in_first_row p c z y x e = grind (arith, nat_tests)

pub sum_by_column : (p : Predictor) (c : Image) (z y x : ℕ) → y ≢ 0 → p.column ≡ true → local_sum p c z y x ≡ pos 4 *ℤ sample_at c z (y - 1) x
unfolding local_sum
sum_by_column p c z y x a b = grind (arith, nat_tests)

pub sum_at_left : (p : Predictor) (c : Image) (z y x : ℕ) → y ≢ 0 → p.column ≡ false → x ≡ 0
    → local_sum p c z y x ≡ pos 2 *ℤ (sample_at c z (y - 1) x +ℤ sample_at c z (y - 1) (x + 1))
unfolding local_sum
sum_at_left p c z y x a b d = grind (arith, nat_tests)

pub sum_at_right : (p : Predictor) (c : Image) (z y x : ℕ) → y ≢ 0 → p.column ≡ false → x ≢ 0 → x + 1 ≡ c.shape.columns
    → local_sum p c z y x ≡ sample_at c z y (x - 1) +ℤ sample_at c z (y - 1) (x - 1) +ℤ pos 2 *ℤ sample_at c z (y - 1) x
unfolding local_sum
sum_at_right p c z y x a b d e = grind (arith, nat_tests)

pub sum_inside : (p : Predictor) (c : Image) (z y x : ℕ) → y ≢ 0 → p.column ≡ false → x ≢ 0 → x + 1 ≢ c.shape.columns
    → local_sum p c z y x ≡ sample_at c z y (x - 1) +ℤ sample_at c z (y - 1) (x - 1) +ℤ sample_at c z (y - 1) x +ℤ sample_at c z (y - 1) (x + 1)
unfolding local_sum
sum_inside p c z y x a b d e = grind (arith, nat_tests)

-- ---- from offsets

offsets_in_first_row : (column : Bool) (y : ℕ) (row above : List ℕ) (x : ℕ) → y ≡ 0 → offset_sum column y row above x ≡ 4 * get_or row (x - 1) 0
offsets_in_first_row column y row above x e = grind (arith, nat_tests)

pub offsets_by_column : (column : Bool) (y : ℕ) (row above : List ℕ) (x : ℕ) → y ≢ 0 → column ≡ true → offset_sum column y row above x ≡ 4 * get_or above x 0
offsets_by_column column y row above x a b = grind (arith, nat_tests)

pub offsets_at_left : (column : Bool) (y : ℕ) (row above : List ℕ) (x : ℕ) → y ≢ 0 → column ≡ false → x ≡ 0
    → offset_sum column y row above x ≡ 2 * (get_or above x 0 + get_or above (x + 1) 0)
offsets_at_left column y row above x a b d = grind (arith, nat_tests)

pub offsets_at_right : (column : Bool) (y : ℕ) (row above : List ℕ) (x : ℕ) → y ≢ 0 → column ≡ false → x ≢ 0 → x + 1 ≡ length row
    → offset_sum column y row above x ≡ get_or row (x - 1) 0 + get_or above (x - 1) 0 + 2 * get_or above x 0
offsets_at_right column y row above x a b d e = grind (arith, nat_tests)

pub offsets_inside : (column : Bool) (y : ℕ) (row above : List ℕ) (x : ℕ) → y ≢ 0 → column ≡ false → x ≢ 0 → x + 1 ≢ length row
    → offset_sum column y row above x ≡ get_or row (x - 1) 0 + get_or above (x - 1) 0 + get_or above x 0 + get_or above (x + 1) 0
offsets_inside column y row above x a b d e = grind (arith, nat_tests)

-- ---- one from the other: low is the least sample

less : (low a s : ℤ) (h t : ℕ) → a ≡ low +ℤ pos h → s ≡ pos 4 *ℤ low +ℤ pos t → pos 4 *ℤ a -ℤ s ≡ pos (4 * h) -ℤ pos t
less low a s h t e f = omega (arith, ints)

module _ (p : Predictor) (c : Image) (z y x : ℕ) (row above : List ℕ) (column : x < c.shape.columns) (long : length row ≡ c.shape.columns)
    (own : AreRowOffsets c z y row) (upper : AreRowOffsets c z (y - 1) above) (later : 0 < y + x) (wide : p.column ≡ false → 2 ≤ c.shape.columns) where
  left : x ≢ 0 → sample_at c z y (x - 1) ≡ smin c.kind +ℤ pos (get_or row (x - 1) 0)
  left n = (own (x - 1) (omega arith)).1

  up : (i : ℕ) → i < c.shape.columns → sample_at c z (y - 1) i ≡ smin c.kind +ℤ pos (get_or above i 0)
  up i l = (upper i l).1

  first_row : y ≡ 0 → local_sum p c z y x ≡ pos 4 *ℤ smin c.kind +ℤ pos (offset_sum p.column y row above x)
  first_row e = rw (sum_in_first_row p c z y x e, offsets_in_first_row p.column y row above x e) (omega (arith, ints, left (omega arith)))

  by_column : y ≢ 0 → p.column ≡ true → local_sum p c z y x ≡ pos 4 *ℤ smin c.kind +ℤ pos (offset_sum p.column y row above x)
  by_column n e = rw (sum_by_column p c z y x n e, offsets_by_column p.column y row above x n e) (omega (arith, ints, up x column))

  at_left : y ≢ 0 → p.column ≡ false → x ≡ 0 → local_sum p c z y x ≡ pos 4 *ℤ smin c.kind +ℤ pos (offset_sum p.column y row above x)
  at_left n e h =
      let w = wide e in
      rw (sum_at_left p c z y x n e h, offsets_at_left p.column y row above x n e h) (omega (arith, ints, up x column, up (x + 1) (omega arith)))

  at_right : y ≢ 0 → p.column ≡ false → x ≢ 0 → x + 1 ≡ c.shape.columns → local_sum p c z y x ≡ pos 4 *ℤ smin c.kind +ℤ pos (offset_sum p.column y row above x)
  at_right n e h r =
      rw (sum_at_right p c z y x n e h r, offsets_at_right p.column y row above x n e h (r ∙ sym long))
      (omega (arith, ints, left h, up (x - 1) (omega arith), up x column))

  between : y ≢ 0 → p.column ≡ false → x ≢ 0 → x + 1 ≢ c.shape.columns → local_sum p c z y x ≡ pos 4 *ℤ smin c.kind +ℤ pos (offset_sum p.column y row above x)
  between n e h r =
      rw (sum_inside p c z y x n e h r, offsets_inside p.column y row above x n e h (λ q. r (q ∙ long)))
      (omega (arith, ints, left h, up (x - 1) (omega arith), up x column, up (x + 1) (omega arith)))

  -- a local sum of samples is that of their offsets, and four times the least sample
  pub sum_of_offsets : local_sum p c z y x ≡ pos 4 *ℤ smin c.kind +ℤ pos (offset_sum p.column y row above x)
  sum_of_offsets =
      elim (cases_eq y 0) [
        | inl e ↦ first_row e
        | inr n ↦ elim (cases_Bool p.column) [
          | inl e ↦ by_column n e
          | inr e ↦ elim (cases_eq x 0) [
            | inl h ↦ at_left n e h
            | inr h ↦ elim (cases_eq (x + 1) c.shape.columns) [ inl r ↦ at_right n e h r | inr r ↦ between n e h r ]
          ]
        ]
      ]

  -- and a difference of samples is that of their offsets
  pub difference_of_offsets : (sample : ℤ) (offset : ℕ) → sample ≡ smin c.kind +ℤ pos offset
      → difference_from p c z y x sample ≡ offset_difference offset (offset_sum p.column y row above x)
  difference_of_offsets sample offset e = less (smin c.kind) sample _ offset _ e sum_of_offsets

  pub central_of_offsets : central_difference p c z y x ≡ offset_difference (get_or row x 0) (offset_sum p.column y row above x)
  unfolding central_difference
  central_of_offsets = difference_of_offsets (sample_at c z y x) (get_or row x 0) (own x column).1
