-- Lines of a band's offsets tell its local sums and its differences.
use Rattle.std.proofs.Common.{◌≡◌, ℕ, ◌+◌, ◌-◌, ◌<◌, ◌≤◌, ◌||◌, ◌==◌, List, length, get_or, replicate, ℤ, pos, ◌+ℤ◌, ◌*ℤ◌, false, arith, refl, sym, ap, ap₂}
use Rattle.std.proofs.Common.{◌∙◌}
use Rattle.cube_core.specs.Kind.{smin, sample_of}
use Rattle.cube_core.specs.Image.{Image, sample_at}
use Rattle.cube_core.specs.Offsets.{AreRowOffsets}
use Rattle.sample_prediction.specs.declared.predictor.Predictor.{Predictor}
use Rattle.sample_prediction.specs.LocalSum.{local_sum}
use Rattle.sample_prediction.specs.Differences.{central_difference, directional_differences, difference_from}
use Rattle.sample_prediction.specs.OffsetSum.{offset_difference}
use Rattle.sample_prediction.specs.Lines.{line_sum, line_difference, line_north, line_directions, AreLines, AreBandLines}
use Rattle.sample_prediction.proofs.LocalSums.{sum_of_offsets, central_of_offsets, difference_of_offsets}
use Rattle.sample_prediction.proofs.Directions.{directional_left, directional_inside}

module _ (p : Predictor) (c : Image) (z y x count : ℕ) (row above current line_above : List ℕ) (inside : x + count ≤ c.shape.columns) (long : length row
    ≡ c.shape.columns) (near : AreRowOffsets c z y row) (upper : AreRowOffsets c z (y - 1) above) (wide : p.column ≡ false → 2 ≤ c.shape.columns)
    (lines : AreLines p.column y row above x count current line_above) where
  whole : (i : ℕ) → i < count → 0 < y + (x + i) → local_sum p c z y (x + i) ≡ pos 4 *ℤ smin c.kind +ℤ pos (line_sum (p.column || y == 0) current line_above i)
  whole i l h = sum_of_offsets p c z y (x + i) row above (omega arith) long near upper h wide ∙ ap (λ s. pos 4 *ℤ smin c.kind +ℤ pos s) (sym (lines.sum i l h))

  own : (i : ℕ) → i < count → 0 < y + (x + i) → central_difference p c z y (x + i) ≡ line_difference (p.column || y == 0) current line_above i
  own i l h =
      central_of_offsets p c z y (x + i) row above (omega arith) long near upper h wide ∙ ap₂ offset_difference (sym (lines.own i l)) (sym (lines.sum i l h))

  -- the difference of a neighbour that stands in a line
  beside : (i : ℕ) → i < count → 0 < y + (x + i) → (sample : ℤ) (offset told : ℕ) → sample ≡ sample_of c.kind offset → told ≡ offset
      → difference_from p c z y (x + i) sample ≡ offset_difference told (line_sum (p.column || y == 0) current line_above i)
  beside i l h sample offset told e f =
      difference_of_offsets p c z y (x + i) row above (omega arith) long near upper h wide sample offset e
      ∙ ap₂ offset_difference (sym f) (sym (lines.sum i l h))

  north : (i : ℕ) → i < count → 0 < y → difference_from p c z y (x + i) (sample_at c z (y - 1) (x + i)) ≡ line_north (p.column || y == 0) current line_above i
  north i l h = beside i l (omega arith) (sample_at c z (y - 1) (x + i)) (get_or above (x + i) 0) (get_or line_above (i + 1) 0) (upper (x + i) (omega arith)).1
      (lines.north i l h)

  all_directions : (i : ℕ) → i < count → 0 < y → 0 < x + i → directional_differences p c z y (x + i) ≡ line_directions (p.column || y == 0) current line_above i
  all_directions i l h k =
      let a = north i l h in
      let b = beside i l (omega arith) (sample_at c z y (x + i - 1)) (get_or row (x + i - 1) 0) (get_or current i 0) (near (x + i - 1) (omega arith)).1
      (lines.west i l k) in
      let d = beside i l (omega arith) (sample_at c z (y - 1) (x + i - 1)) (get_or above (x + i - 1) 0) (get_or line_above i 0)
      (upper (x + i - 1) (omega arith)).1 (lines.north_west i l h k) in
      rw (directional_inside p c z y (x + i) (omega arith) (omega arith), a, b, d) refl

  at_left : 1 ≤ count → 0 < y → x ≡ 0 → directional_differences p c z y x ≡ replicate 3 (line_north (p.column || y == 0) current line_above 0)
  at_left some h e = let n : x + 0 ≡ x = omega arith in let a = rw n at (north 0 (omega arith) h) in rw (directional_left p c z y x (omega arith) e, a) refl

  pub band_lines : 1 ≤ count → AreBandLines p c z y x count current line_above
  band_lines some = record { sum = whole; central = own; directions = all_directions; first_directions = at_left some }
