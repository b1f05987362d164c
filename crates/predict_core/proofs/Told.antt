-- What lines of a band and quads of its components tell of a run.
use Rattle.std.proofs.Common.{◌≡◌, ℕ, ◌+◌, ◌-◌, ◌*◌, ◌^◌, ◌<◌, ◌≤◌, ◌||◌, ◌==◌, ℤ, pos, ◌+ℤ◌, ◌-ℤ◌, ◌*ℤ◌, ◌≤ℤ◌, false, List, ◌++◌, get_or, replicate}
use Rattle.std.proofs.Common.{unsigned_abs, arith, sym, ap, ◌∙◌, subst}
use Rattle.std.proofs.lemmas.Int.{ints}
use Rattle.std.proofs.Math.Pow.{pow_mono}
use Rattle.cube_core.specs.Kind.{smin, smax}
use Rattle.cube_core.specs.Image.{Image, IsCube, IsPlace}
use Rattle.sample_prediction.specs.declared.predictor.Predictor.{Predictor}
use Rattle.predict_core.specs.declared.differences.room.Quad.{Quad}
use Rattle.sample_prediction.specs.LocalSum.{local_sum}
use Rattle.sample_prediction.specs.Differences.{central_difference, difference_vector}
use Rattle.sample_prediction.specs.Bounds.{AllWithin}
use Rattle.sample_prediction.specs.Mapping.{Between}
use Rattle.sample_prediction.specs.Lines.{line_sum, line_difference, AreBandLines}
use Rattle.predict_core.specs.Rooms.{IsRoom, components_at, quads_of}
use Rattle.predict_core.proofs.Ranges.{sum_within, central_within, padded_within}
use Rattle.sample_prediction.proofs.Spans.{span}

-- a sum of offsets is at most four times the greatest of them
pub offset_sum_most : (low high s sum : ℤ) (power : ℕ) → high -ℤ low ≡ pos power -ℤ pos 1 → power ≤ 65536 → Between (pos 4 *ℤ low) (pos 4 *ℤ high) s
    → pos 4 *ℤ low +ℤ sum ≡ s
    → (pos 0 ≤ℤ sum) × (sum ≤ℤ pos 262140)
offset_sum_most low high s sum power e l h f = (omega (arith, ints, e, l, h.0, h.1, f), omega (arith, ints, e, l, h.0, h.1, f))

module _ (p : Predictor) (c : Image) (z y x count components : ℕ) (current upper : List ℕ) (sums own : List ℤ) (quads : List Quad) (cube : IsCube c)
    (place : IsPlace c.shape z y x) (inside : x + count ≤ c.shape.columns) (wide : p.column ≡ false → 2 ≤ c.shape.columns)
    (few : count ≤ 64) (lines : AreBandLines p c z y x count current upper)
    (sums_are : (i : ℕ) → i < 64 → get_or sums i (pos 0) ≡ pos (line_sum (p.column || y == 0) current upper i))
    (own_are : (i : ℕ) → i < 64 → get_or own i (pos 0) ≡ line_difference (p.column || y == 0) current upper i)
    (vectors : (i : ℕ) → i < count → 0 < y + (x + i)
    → components_at (quads_of components) quads i ≡ difference_vector p c z y (x + i) ++ replicate (4 * quads_of components - components) (pos 0)) where
  along : (i : ℕ) → i < count → IsPlace c.shape z y (x + i)
  along i l = record { band = place.band; row = place.row; column = omega arith }

  sum : (i : ℕ) → i < count → 0 < y + (x + i) → pos 4 *ℤ smin c.kind +ℤ get_or sums i (pos 0) ≡ local_sum p c z y (x + i)
  sum i l h = ap (λ s. pos 4 *ℤ smin c.kind +ℤ s) (sums_are i (omega arith)) ∙ sym (lines.sum i l h)

  central : (i : ℕ) → i < count → 0 < y + (x + i) → get_or own i (pos 0) ≡ central_difference p c z y (x + i)
  central i l h = own_are i (omega arith) ∙ sym (lines.central i l h)

  sum_in : (i : ℕ) → i < count → 0 < y + (x + i) → (pos 0 ≤ℤ get_or sums i (pos 0)) × (get_or sums i (pos 0) ≤ℤ pos 262140)
  sum_in i l h =
      let bits = cube.bits in let power : 2 ^ c.kind.bits ≤ 2 ^ 16 = pow_mono (bits.1) in
      offset_sum_most (smin c.kind) (smax c.kind) (local_sum p c z y (x + i)) (get_or sums i (pos 0)) (2 ^ c.kind.bits) (span c.kind bits) power
      (sum_within p c cube y (x + i) h wide z (along i l)) (sum i l h)

  pub room_told : IsRoom p c z y x count components sums own quads
  room_told = record {
    sum = sum;
    central = central;
    vector = vectors;
    sum_least = λ i l h. (sum_in i l h).0;
    sum_most = λ i l h. (sum_in i l h).1;
    central_in = λ i l h. subst (λ d. unsigned_abs d ≤ 4 * 2 ^ c.kind.bits) (sym (central i l h)) (central_within p c cube y (x + i) h wide z (along i l));
    vector_in = λ i l h. subst (AllWithin (4 * 2 ^ c.kind.bits)) (sym (vectors i l h))
        (padded_within p c cube y (x + i) h wide z (along i l) (4 * quads_of components - components));
  }
