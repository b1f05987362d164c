-- Components of a wavefront, case by case.
use Rattle.std.proofs.Common.{◌≡◌, ◌+◌, ◌-◌, ◌*◌, ◌^◌, ◌<◌, ◌≤◌, ℕ, ℤ, pos, ◌+ℤ◌, ◌-ℤ◌, ◌*ℤ◌, ◌≤ℤ◌, unsigned_abs, Bool, true, false, List, arith, subst, inl, inr, if◌then◌else◌}
use Rattle.std.proofs.lemmas.Bool.{cases_lt}
use Rattle.std.proofs.lemmas.Int.{ints}
use Rattle.std.proofs.Math.Pow.{pow-add}
use Rattle.std.proofs.lemmas.Bool.Decides.{nat_tests}
use Rattle.lanes.specs.Lanes.{place}
use Rattle.wave_inversion.specs.Wave.{Lower, AreRowsBelow, AreLowerBelow, sum_by, diagonal_in, lagged_in, component_in}

module _ (lower own : List (List ℤ)) (k lag b : ℕ) where
  pub diagonal_low : b < lag → place lower (k - lag) (8 + b - lag) ≡ diagonal_in lower own k lag b
  unfolding diagonal_in
  diagonal_low h = grind (arith, nat_tests, h)

  pub diagonal_high : lag ≤ b → place own (k - lag) (b - lag) ≡ diagonal_in lower own k lag b
  unfolding diagonal_in
  diagonal_high h = grind (arith, nat_tests, h)

module _ (lower : Lower) (own : List (List ℤ)) (k lag b : ℕ) where
  pub lagged_near : lag < 8 → diagonal_in lower.near own k lag b ≡ lagged_in lower own k lag b
  unfolding lagged_in
  lagged_near h = grind (arith, nat_tests, h)

  pub lagged_far : 8 ≤ lag → diagonal_in lower.far lower.beside k (lag - 8) b ≡ lagged_in lower own k lag b
  unfolding lagged_in
  lagged_far h = grind (arith, nat_tests, h)

-- the index of the first component that isn't a directional one
abbrev pub first_of : Bool → ℕ
first_of reduced = if reduced then 0 else 3

module _ (reduced : Bool) (previous : ℕ) (directions : List (List ℤ)) (lower : Lower) (own : List (List ℤ)) (k index b : ℕ) where
  pub component_direction : index < first_of reduced → place directions index b ≡ component_in reduced previous directions lower own k index b
  unfolding component_in
  component_direction h = grind (arith, nat_tests, h)

  pub component_lagged : first_of reduced ≤ index → index - first_of reduced < previous
      → lagged_in lower own k (index - first_of reduced + 1) b ≡ component_in reduced previous directions lower own k index b
  unfolding component_in
  component_lagged h l = grind (arith, nat_tests, h, l)

  pub component_none : first_of reduced ≤ index → previous ≤ index - first_of reduced → pos 0 ≡ component_in reduced previous directions lower own k index b
  unfolding component_in
  component_none h l = grind (arith, nat_tests, h, l)

  -- components are as small as what they are taken of
  pub component_below : (limit : ℕ) → 0 < limit → (7 ≤ k) × (k < 64) → previous ≤ 15 → b < 8
      → ((j : ℕ) → j < 3 → unsigned_abs (place directions j b) < limit) → AreLowerBelow previous limit lower → AreRowsBelow limit own
      → unsigned_abs (component_in reduced previous directions lower own k index b) < limit
  component_below limit some step few within first low high = elim (cases_lt index (first_of reduced)) [
    | inl direction ↦
        subst (λ v. unsigned_abs v < limit) (component_direction direction)
        (first index (let most : first_of reduced ≤ 3 = first_most reduced in omega (arith, direction, most)))
    | inr after ↦ elim (cases_lt (index - first_of reduced) previous) [
      | inr none ↦ subst (λ v. unsigned_abs v < limit) (component_none after none) some
      | inl lag ↦ subst (λ v. unsigned_abs v < limit) (component_lagged after lag) (lagged (index - first_of reduced + 1) (omega (arith, lag)) (omega (arith, lag, few)))
    ]
  ]
    where
      first_most : (r : Bool) → first_of r ≤ 3
      first_most true = omega arith
      first_most false = omega arith

      diagonal : (first second : List (List ℤ)) (lag : ℕ) → lag ≤ 7 → AreRowsBelow limit first → AreRowsBelow limit second
          → unsigned_abs (diagonal_in first second k lag b) < limit
      diagonal first second lag h low high = elim (cases_lt b lag) [
        | inl l ↦ subst (λ v. unsigned_abs v < limit) (diagonal_low first second k lag b l) (low _ _ (omega (arith, step.1)) (omega (arith, l)))
        | inr l ↦ subst (λ v. unsigned_abs v < limit) (diagonal_high first second k lag b l) (high _ _ (omega (arith, step.1)) (omega (arith, within)))
      ]

      lagged : (lag : ℕ) → lag ≤ previous → lag ≤ 15 → unsigned_abs (lagged_in lower own k lag b) < limit
      lagged lag used h = elim (cases_lt lag 8) [
        | inl l ↦ subst (λ v. unsigned_abs v < limit) (lagged_near lower own k lag b l) (diagonal lower.near own lag (omega (arith, l)) low.near high)
        | inr l ↦ subst (λ v. unsigned_abs v < limit) (lagged_far lower own k lag b l)
            (diagonal lower.far lower.beside (lag - 8) (omega (arith, h)) (low.far (omega (arith, l, used))) (low.beside (omega (arith, l, used))))
      ]

-- a local difference of offsets is below four times their number
pub difference_below : (greatest a w nw n ne : ℤ) (column : Bool) (bits : ℕ) → greatest +ℤ pos 1 ≡ pos (2 ^ bits)
    → (pos 0 ≤ℤ a) × (a ≤ℤ greatest) → (pos 0 ≤ℤ w) × (w ≤ℤ greatest) → (pos 0 ≤ℤ nw) × (nw ≤ℤ greatest) → (pos 0 ≤ℤ n) × (n ≤ℤ greatest)
    → (pos 0 ≤ℤ ne) × (ne ≤ℤ greatest) → unsigned_abs (pos 4 *ℤ a -ℤ sum_by column w nw n ne) < 2 ^ (bits + 2)
difference_below greatest a w nw n ne true bits e p q r s t =
    let power : 2 ^ (bits + 2) ≡ 2 ^ bits * 2 ^ 2 = pow-add 2 bits 2 in omega (arith, ints, power, e, p.0, p.1, s.0, s.1)
difference_below greatest a w nw n ne false bits e p q r s t =
    let power : 2 ^ (bits + 2) ≡ 2 ^ bits * 2 ^ 2 = pow-add 2 bits 2 in omega (arith, ints, power, e, p.0, p.1, q.0, q.1, r.0, r.1, s.0, s.1, t.0, t.1)
