-- Lines of offsets, and the sums that they tell.
use Rattle.std.proofs.Common.{◌≡◌, ◌≢◌, ℕ, zero, suc, ◌+◌, ◌-◌, ◌<◌, ◌≤◌, Bool, true, false, ◌||◌, ◌==◌, List, [], ◌∷◌, length, get_or, set, arith, refl, sym}
use Rattle.std.proofs.Common.{ap, ◌∙◌, inl, inr, get_or-set_same, get_or-set_other, length-set}
use Rattle.std.proofs.lemmas.Bool.{cases_eq}
use Rattle.std.proofs.lemmas.Bool.Decides.{nat_tests}
use Rattle.std.proofs.lemmas.List.{get_or-append-add}
use lib.ListN.{get_or-append}
use Rattle.sample_prediction.specs.OffsetSum.{offset_sum}
use Rattle.sample_prediction.specs.Lines.{bordered, line_sum, AreLines}
use Rattle.sample_prediction.proofs.LocalSums.{offsets_by_column}

-- ---- a row with a border

pub border_inside : (before : ℕ) (row : List ℕ) (after k : ℕ) → 0 < k → k ≤ length row → get_or (bordered before row after) k 0 ≡ get_or row (k - 1) 0
border_inside before row after zero h l = absurd (omega arith)
border_inside before row after (suc k) h l = let e : suc k - 1 ≡ k = omega arith in rw e (get_or-append row (after ∷ []) 0 k (omega arith))

pub border_after : (before : ℕ) (row : List ℕ) (after k : ℕ) → k ≡ length row + 1 → get_or (bordered before row after) k 0 ≡ after
border_after before row after zero e = absurd (omega arith)
border_after before row after (suc k) e = let n : k ≡ length row + 0 = omega arith in rw n (get_or-append-add row (after ∷ []) 0 0)

pub border_before : (before : ℕ) (row : List ℕ) (after k : ℕ) → k ≡ 0 → get_or (bordered before row after) k 0 ≡ before
border_before before row after k e = rw e refl

bordered_at : (before : ℕ) (row : List ℕ) (after n k : ℕ) → n ≡ k + 1 → k < length row → get_or (bordered before row after) n 0 ≡ get_or row k 0
bordered_at before row after n k e l =
    border_inside before row after n (omega (arith, e)) (omega (arith, e, l)) ∙ ap (λ m. get_or row m 0) (let s : n - 1 ≡ k = omega (arith, e) in s)

-- a line whose ends are written last
pub ends_written : (line row : List ℕ) (x count before after v w : ℕ) → 2 + count ≤ length line → x + count ≤ length row
    → ((k : ℕ) → k < count → get_or line (k + 1) 0 ≡ get_or row (x + k) 0)
    → v ≡ get_or (bordered before row after) x 0 → w ≡ get_or (bordered before row after) (x + count + 1) 0
    → (k : ℕ) → k < count + 2 → get_or (set (set line 0 v) (count + 1) w) k 0 ≡ get_or (bordered before row after) (x + k) 0
ends_written line row x count before after v w long inside middle a b k l =
    elim (cases_eq k (count + 1)) [
      | inl e ↦ rw e (get_or-set_same (set line 0 v) (count + 1) w 0 (rw (length-set {A = ℕ}) (omega arith)) ∙ b
          ∙ ap (λ n. get_or (bordered before row after) n 0) (omega arith))
      | inr n ↦ get_or-set_other (set line 0 v) (count + 1) k w 0 n ∙ elim (cases_eq k 0) [
        | inl e ↦ rw e (get_or-set_same line 0 v 0 (omega arith) ∙ a ∙ ap (λ n. get_or (bordered before row after) n 0) (omega arith))
        | inr m ↦
            get_or-set_other line 0 k v 0 m ∙ ap (λ n. get_or line n 0) (omega arith) ∙ middle (k - 1) (omega arith)
            ∙ ap (λ n. get_or row n 0) (omega arith) ∙ sym (border_inside before row after (x + k) (omega arith) (omega arith))
      ]
    ]

-- ---- sums of four neighbours

-- two lines of a row below the first one, for sums of four
module _ (y : ℕ) (row above : List ℕ) (x count after : ℕ) (current upper : List ℕ) (later : y ≢ 0) (inside : x + count ≤ length row)
    (same : length above ≡ length row) (wide : 2 ≤ length row)
    (near : (k : ℕ) → k < count + 2 → get_or current k 0 ≡ get_or (bordered (get_or above 0 0) row after) (x + k) 0)
    (far : (k : ℕ) → k < count + 2 → get_or upper k 0 ≡ get_or (bordered (get_or above 1 0) above (get_or above (length above - 1) 0)) (x + k) 0) where
  near_own : (i : ℕ) → i < count → get_or current (i + 1) 0 ≡ get_or row (x + i) 0
  near_own i l = near (i + 1) (omega arith) ∙ bordered_at (get_or above 0 0) row after (x + (i + 1)) (x + i) (omega arith) (omega arith)

  near_west : (i : ℕ) → i < count → 0 < x + i → get_or current i 0 ≡ get_or row (x + i - 1) 0
  near_west i l h = near i (omega arith) ∙ border_inside (get_or above 0 0) row after (x + i) h (omega arith)

  near_first : x ≡ 0 → get_or current 0 0 ≡ get_or above 0 0
  near_first e = near 0 (omega arith) ∙ border_before (get_or above 0 0) row after (x + 0) (omega arith)

  far_north : (i : ℕ) → i < count → get_or upper (i + 1) 0 ≡ get_or above (x + i) 0
  far_north i l =
      far (i + 1) (omega arith) ∙ bordered_at (get_or above 1 0) above (get_or above (length above - 1) 0) (x + (i + 1)) (x + i) (omega arith) (omega arith)

  far_west : (i : ℕ) → i < count → 0 < x + i → get_or upper i 0 ≡ get_or above (x + i - 1) 0
  far_west i l h = far i (omega arith) ∙ border_inside (get_or above 1 0) above (get_or above (length above - 1) 0) (x + i) h (omega arith)

  far_first : x ≡ 0 → get_or upper 0 0 ≡ get_or above 1 0
  far_first e = far 0 (omega arith) ∙ border_before (get_or above 1 0) above (get_or above (length above - 1) 0) (x + 0) (omega arith)

  far_east : (i : ℕ) → i < count → x + i + 1 < length row → get_or upper (i + 2) 0 ≡ get_or above (x + i + 1) 0
  far_east i l h =
      far (i + 2) (omega arith) ∙ bordered_at (get_or above 1 0) above (get_or above (length above - 1) 0) (x + (i + 2)) (x + i + 1) (omega arith) (omega arith)

  far_last : (i : ℕ) → i < count → x + i + 1 ≡ length row → get_or upper (i + 2) 0 ≡ get_or above (x + i) 0
  far_last i l e =
      far (i + 2) (omega arith) ∙ border_after (get_or above 1 0) above (get_or above (length above - 1) 0) (x + (i + 2)) (omega arith)
      ∙ ap (λ n. get_or above n 0) (omega arith)

  four : (i : ℕ) → i < count → line_sum false current upper i ≡ offset_sum false y row above (x + i)
  four i l =
      let a = near_west i l in let b = far_west i l in let d = far_north i l in let e = far_east i l in let f = far_last i l in let g = near_first in
      let h = far_first in grind (arith, nat_tests, a, b, d, e, f, g, h, wide, same, later)

  pub four_lines : AreLines false y row above x count current upper
  four_lines = record {
    own = near_own;
    west = near_west;
    north = λ i l h. far_north i l;
    north_west = λ i l h k. far_west i l k;
    beside_first = λ h e. near_first e;
    sum = λ i l h. by_row i l;
  }
    where
      by_row : (i : ℕ) → i < count → line_sum (false || y == 0) current upper i ≡ offset_sum false y row above (x + i)
      by_row i l = let e : (false || y == 0) ≡ false = grind (arith, nat_tests) in ap (λ b. line_sum b current upper i) e ∙ four i l

-- ---- sums of the northern neighbour alone

module _ (y : ℕ) (row above : List ℕ) (x count before after : ℕ) (current upper : List ℕ) (later : y ≢ 0) (inside : x + count ≤ length row)
    (same : length above ≡ length row)
    (near : (k : ℕ) → k < count + 2 → get_or current k 0 ≡ get_or (bordered (get_or above 0 0) row after) (x + k) 0)
    (far : (k : ℕ) → k < count + 2 → get_or upper k 0 ≡ get_or (bordered before above before) (x + k) 0) where
  over : (i : ℕ) → i < count → get_or upper (i + 1) 0 ≡ get_or above (x + i) 0
  over i l = far (i + 1) (omega arith) ∙ bordered_at before above before (x + (i + 1)) (x + i) (omega arith) (omega arith)

  pub column_lines : AreLines true y row above x count current upper
  column_lines = record {
    own = λ i l. near (i + 1) (omega arith) ∙ bordered_at (get_or above 0 0) row after (x + (i + 1)) (x + i) (omega arith) (omega arith);
    west = λ i l h. near i (omega arith) ∙ border_inside (get_or above 0 0) row after (x + i) h (omega arith);
    north = λ i l h. over i l;
    north_west = λ i l h k. far i (omega arith) ∙ border_inside before above before (x + i) k (omega arith);
    beside_first = λ h e. near 0 (omega arith) ∙ border_before (get_or above 0 0) row after (x + 0) (omega arith);
    sum = λ i l h. let o = over i l in let s = offsets_by_column true y row above (x + i) later refl in omega (arith, o, s);
  }

-- ---- the first row

pub first_lines : (column : Bool) (y : ℕ) (row above : List ℕ) (x count before after : ℕ) (current upper : List ℕ) → y ≡ 0 → x + count ≤ length row
    → ((k : ℕ) → k < count + 2 → get_or current k 0 ≡ get_or (bordered before row after) (x + k) 0)
    → ((i : ℕ) → i < count → get_or upper (i + 1) 0 ≡ get_or current i 0) → AreLines column y row above x count current upper
first_lines column y row above x count before after current upper none inside near copied = record {
  own = λ i l. near (i + 1) (omega arith) ∙ bordered_at before row after (x + (i + 1)) (x + i) (omega arith) (omega arith);
  west = west;
  north = λ i l h. absurd (omega arith);
  north_west = λ i l h k. absurd (omega arith);
  beside_first = λ h e. absurd (omega arith);
  sum = λ i l h. let w = west i l (omega arith) in let d = copied i l in sums i w d;
}
  where
    west : (i : ℕ) → i < count → 0 < x + i → get_or current i 0 ≡ get_or row (x + i - 1) 0
    west i l h = near i (omega arith) ∙ border_inside before row after (x + i) h (omega arith)

    sums : (i : ℕ) → get_or current i 0 ≡ get_or row (x + i - 1) 0 → get_or upper (i + 1) 0 ≡ get_or current i 0
        → line_sum (column || y == 0) current upper i ≡ offset_sum column y row above (x + i)
    sums i w d = grind (arith, nat_tests, none, w, d)
