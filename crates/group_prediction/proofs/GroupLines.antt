-- Local sums and differences that 16 bits hold.
use Rattle.std.proofs.Common.{◌≡◌, ℕ, ◌+◌, ◌*◌, ◌^◌, ◌<◌, ◌≤◌, ℤ, pos, ◌+ℤ◌, ◌-ℤ◌, ◌*ℤ◌, unsigned_abs, false, List, length, take, drop, get_or, slice_index, sym, ◌∙◌, subst, arith, pow_mono}
use Rattle.std.proofs.lemmas.Int.{ints}
use Rattle.std.proofs.lemmas.List.{get_or-take, get_or-drop}
use Rattle.cube_core.specs.Kind.{smin}
use Rattle.sample_prediction.specs.OffsetSum.{offset_difference}
use Rattle.cube_core.specs.Image.{Image, IsCube, IsPlace}
use Rattle.sample_prediction.specs.declared.predictor.Predictor.{Predictor}
use Rattle.sample_prediction.specs.LocalSum.{local_sum}
use Rattle.sample_prediction.specs.Differences.{central_difference, directional_differences}
use Rattle.sample_prediction.proofs.Spans.{span}
use Rattle.predict_core.proofs.Ranges.{sum_within, central_below, directional_below}

module _ (p : Predictor) (c : Image) (cube : IsCube c) (bits : c.kind.bits ≤ 13) (z y x : ℕ) (later : 0 < y + x) (wide : p.column ≡ false → 2 ≤ c.shape.columns)
    (place : IsPlace c.shape z y x) where
  power : 2 ^ c.kind.bits ≤ 2 ^ 13
  power = pow_mono bits

  pub sum_small : (sum : ℕ) → local_sum p c z y x ≡ pos 4 *ℤ smin c.kind +ℤ pos sum → sum < 2 ^ 15
  sum_small sum e =
      let w = sum_within p c cube y x later wide z place in let s = span c.kind cube.bits in let q = power in omega (arith, ints, e, w.1, s, q)

  pub central_small : unsigned_abs (central_difference p c z y x) < 2 ^ 15
  central_small = let w = central_below p c cube y x later wide z place in let q = power in omega (arith, w, q)

  pub directional_small : (k : ℕ) → k < length (directional_differences p c z y x) → unsigned_abs (get_or (directional_differences p c z y x) k (pos 0)) < 2 ^ 15
  directional_small k l = let w = directional_below p c cube y x later wide z place k l in let q = power in omega (arith, w, q)

-- an entry of 64 that are taken from an entry on
pub taken_at : (xs : List ℕ) (from i : ℕ) → i < 64 → slice_index (take 64 (drop from xs)) i ≡ slice_index xs (from + i)
taken_at xs from i l = get_or-take 64 (drop from xs) i 0 l ∙ get_or-drop from xs i 0

-- a difference of an offset, as it is written
pub difference_told : (sum a b : ℕ) (s d out : ℤ) → s ≡ pos sum → a ≡ b → d ≡ offset_difference b sum → unsigned_abs d < 2 ^ 15
    → (unsigned_abs (pos (4 * a) -ℤ s) < 2 ^ 15 → out ≡ pos (4 * a) -ℤ s) → out ≡ d
difference_told sum a b s d out e f g h k =
    let same : pos (4 * a) -ℤ s ≡ d = omega (arith, ints, e, f, g) in k (subst (λ v. unsigned_abs v < 2 ^ 15) (sym same) h) ∙ same
