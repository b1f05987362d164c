use Rattle.std.proofs.Common.{◌≡◌, ◌∙◌, ◌+◌, ◌-◌, ◌<◌, ◌≤◌, ℕ, pos, length, get_or, inl, inr, arith, ap, sym}
use Rattle.std.proofs.lemmas.Bool.{cases_lt, cases_eq}
use Rattle.std.specs.List.{slice_index}
use Rattle.wave_inversion.specs.WaveLanes.{column_within}
use Rattle.wave_inversion.specs.WaveRows.{without_sign}
use Rattle.wave_inversion.proofs.rows.skew.Goals as goal
use Rattle.wave_inversion.proofs.rows.skew.Goals.{After-repeat_last}

module _ (c : After-repeat_last) where
  abbrev first : ℕ
  first = c.saturating_sub-first.result

  abbrev from : ℕ
  from = c.args.origin + first - c.args.back

  abbrev count : ℕ
  count = c.min-count.result

  -- a place among those that are copied
  copied : (i : ℕ) → first ≤ i → i - first < count → without_sign (get_or c.repeat_last.new.line i (pos 0)) ≡ pos (slice_index c.args.row.now (from + (i - first)))
  copied i low lt =
      let at : first + (i - first) ≡ i = omega (arith, low) in
      ap without_sign (c.repeat_last.ensures.others i (λ e. omega (arith, e, low, lt)) ∙ sym (ap (λ (k : ℕ). get_or c.put_numbers.new.line k (pos 0)) at))
      ∙ c.put_numbers.ensures.numbers (i - first) lt

  -- the one after them
  repeated : (i : ℕ) → i < 64 → first + count ≡ i → without_sign (get_or c.repeat_last.new.line i (pos 0)) ≡ pos (slice_index c.args.row.now (length c.args.row.now - 1))
  repeated i small at = ap (λ (k : ℕ). without_sign (get_or c.repeat_last.new.line k (pos 0))) (sym at) ∙ c.repeat_last.ensures.here (omega (arith, at, small))

  -- and one beside all of these
  beside : (i : ℕ) → i < 64 → (first ≤ i → first + count < i) → without_sign (get_or c.repeat_last.new.line i (pos 0)) ≡ pos 0
  beside i small apart =
      ap without_sign (c.repeat_last.ensures.others i (λ e. (let far = apart (omega (arith, e)) in omega (arith, e, far)))
      ∙ c.put_numbers.ensures.others i (λ h. (let far = apart h in omega (arith, far))) ∙ c.clear_line.ensures i small)

  column_is : (i : ℕ) → i < 64 → first ≤ i → i - first < count → from + (i - first) ≡ c.args.origin + i - c.args.back
      → from + (i - first) ≡ column_within (length c.args.row.now) (c.args.origin + i - c.args.back)
  column_is i small low lt column = omega (arith, c.min-count.ensures, c.saturating_sub.ensures, lt, column)

pub returns : goal.returns
returns c = record {
  numbers = λ i small before within.
      let low : first c ≤ i = omega (arith, c.saturating_sub-first.ensures, before) in
      let column : from c + (i - first c) ≡ c.args.origin + i - c.args.back = omega (arith, c.saturating_sub-first.ensures, before, low) in
      elim (cases_lt (i - first c) (count c)) [
        | inl lt ↦ copied c i low lt ∙ ap (λ (x : ℕ). pos (slice_index c.args.row.now x)) (column_is c i small low lt column)
        | inr after ↦
            (let ends : c.args.origin + i - c.args.back ≡ length c.args.row.now =
            omega (arith, c.min-count.ensures, c.saturating_sub.ensures, after, low, small, column, within) in
            repeated c i small (omega (arith, c.min-count.ensures, c.saturating_sub.ensures, after, low, small, column, within))
            ∙ ap (λ (x : ℕ). pos (slice_index c.args.row.now x)) (omega (arith, ends)))
      ];
  each = λ i small. elim (cases_lt i (first c)) [
    | inl before ↦ inl (beside c i small (λ h. absurd (omega (arith, h, before))))
    | inr low ↦ elim (cases_lt (i - first c) (count c)) [
      | inl lt ↦ inr (from c + (i - first c), omega (arith, lt, c.min-count.ensures, c.saturating_sub.ensures), copied c i low lt)
      | inr after ↦ elim (cases_eq i (first c + count c)) [
        | inl here ↦ inr (length c.args.row.now - 1, omega (arith, c.requires.columns.0), repeated c i small (sym here))
        | inr apart ↦ inl (beside c i small (λ h. omega (arith, h, after, apart)))
      ]
    ]
  ];
}
