-- One place of a wavefront, by offsets from the least sample.
use Rattle.std.proofs.Common.{◌≡◌, ◌+◌, ◌-◌, ◌<◌, ◌≤◌, ◌==◌, ℕ, ℤ, pos, ◌+ℤ◌, ◌-ℤ◌, ◌*ℤ◌, ◌≤ℤ◌, Bool, true, false}
use Rattle.std.proofs.Common.{List, [], ◌∷◌, sym, ap, ◌∙◌, inl, inr, arith, if◌then◌else◌}
use Rattle.std.proofs.lemmas.Bool.{cases_lt}
use Rattle.std.proofs.lemmas.Bool.Decides.{nat_tests}
use Rattle.std.proofs.lemmas.Int.{ints, clamps}
use Rattle.cube_core.specs.Kind.{smin, smax, smid}
use Rattle.cube_core.specs.Image.{Image, IsCube, IsPlace, sample_at}
use Rattle.sample_prediction.specs.Arithmetic.{floor_div, clip}
use Rattle.sample_prediction.specs.Chain.{scaled_by_difference}
use Rattle.sample_prediction.specs.Differences.{central_difference, directional_differences}
use Rattle.sample_prediction.specs.LocalSum.{local_sum}
use Rattle.sample_prediction.specs.Residual.{mapped, mapped_between}
use Rattle.sample_prediction.specs.declared.predictor.Predictor.{Predictor}
use Rattle.sample_prediction.proofs.OneSample.{sample_back}
use Rattle.predict_core.specs.Offsets.{number_at}
use Rattle.wave_inversion.specs.Wave.{sum_by}
use Rattle.wave_inversion.specs.WaveLanes.{column_within}
use Rattle.wave_inversion.specs.WaveSteps.{offset_by}
use Rattle.wave_inversion.proofs.Coded.{number_is}
use Rattle.predict_core.proofs.Numbers.{offset_mapped}
use Rattle.predict_core.proofs.Ranges.{sample_within}

-- neither in the first row nor at an end of its row
inside_row : (column : Bool) (y x columns : ℕ) (a b c d e : ℤ) → 0 < y → 0 < x → x + 1 < columns
    → (if y == 0 then a else if column then b else if x == 0 then c else if x + 1 == columns then d else e) ≡ (if column then b else e)
inside_row true y x columns a b c d e h l m = grind (arith, nat_tests, h)
inside_row false y x columns a b c d e h l m = grind (arith, nat_tests, h, l, m)

-- at the end of its row
end_of_row : (column : Bool) (y x columns : ℕ) (a b c d e : ℤ) → 0 < y → 0 < x → x + 1 ≡ columns
    → (if y == 0 then a else if column then b else if x == 0 then c else if x + 1 == columns then d else e) ≡ (if column then b else d)
end_of_row true y x columns a b c d e h l m = grind (arith, nat_tests, h)
end_of_row false y x columns a b c d e h l m = grind (arith, nat_tests, h, l, m)

module _ (p : Predictor) (d : Image) (cube : IsCube d) (z y x : ℕ) (place : IsPlace d.shape z y x) (below : 0 < y) (left : 0 < x) where
  abbrev pub offset : ℕ → ℕ → ℤ
  offset y' x' = pos (number_at d z y' x')

  -- at the end of the row the north stands for the north-east
  abbrev pub offset_sum : ℤ
  offset_sum = sum_by p.column (offset y (x - 1)) (offset (y - 1) (x - 1)) (offset (y - 1) x) (offset (y - 1) (column_within d.shape.columns (x + 1)))

  sample : (y' x' : ℕ) → y' ≤ y → x' < d.shape.columns → sample_at d z y' x' ≡ smin d.kind +ℤ offset y' x'
  sample y' x' row column = number_is d z y' x' cube (record { band = place.band; row = (let r = place.row in omega (arith, r, row)); column = column })

  pub sum_told : local_sum p d z y x ≡ pos 4 *ℤ smin d.kind +ℤ offset_sum
  unfolding local_sum
  sum_told =
      let w = sample y (x - 1) (omega arith) (let q = place.column in omega (arith, q)) in
      let nw = sample (y - 1) (x - 1) (omega arith) (let q = place.column in omega (arith, q)) in
      let n = sample (y - 1) x (omega arith) place.column in
      elim (cases_lt (x + 1) d.shape.columns) [
        | inl right ↦
            (let at : column_within d.shape.columns (x + 1) ≡ x + 1 = omega (arith, right) in
            inside_row p.column y x d.shape.columns _ _ _ _ _ below left right
            ∙ told p.column (sample_at d z y (x - 1)) (sample_at d z (y - 1) (x - 1)) (sample_at d z (y - 1) x) (sample_at d z (y - 1) (x + 1)) (smin d.kind)
            (number_at d z y (x - 1)) (number_at d z (y - 1) (x - 1)) (number_at d z (y - 1) x) (number_at d z (y - 1) (x + 1)) w nw n
            (sample (y - 1) (x + 1) (omega arith) right)
            ∙ ap (λ (k : ℕ). pos 4 *ℤ smin d.kind +ℤ sum_by p.column (offset y (x - 1)) (offset (y - 1) (x - 1)) (offset (y - 1) x) (offset (y - 1) k)) (sym at))
        | inr end ↦
            (let at : column_within d.shape.columns (x + 1) ≡ x = (let q = place.column in omega (arith, end, q)) in
            end_of_row p.column y x d.shape.columns _ _ _ _ _ below left (let q = place.column in omega (arith, end, q))
            ∙ told_twice p.column (sample_at d z y (x - 1)) (sample_at d z (y - 1) (x - 1)) (sample_at d z (y - 1) x) (smin d.kind)
            (number_at d z y (x - 1)) (number_at d z (y - 1) (x - 1)) (number_at d z (y - 1) x) w nw n
            ∙ ap (λ (k : ℕ). pos 4 *ℤ smin d.kind +ℤ sum_by p.column (offset y (x - 1)) (offset (y - 1) (x - 1)) (offset (y - 1) x) (offset (y - 1) k)) (sym at))
      ]
    where
      told : (c : Bool) (w nw n ne low : ℤ) (a b e f : ℕ) → w ≡ low +ℤ pos a → nw ≡ low +ℤ pos b → n ≡ low +ℤ pos e → ne ≡ low +ℤ pos f
          → (if c then pos 4 *ℤ n else w +ℤ nw +ℤ n +ℤ ne) ≡ pos 4 *ℤ low +ℤ sum_by c (pos a) (pos b) (pos e) (pos f)
      told true w nw n ne low a b e f p q r s = rw r (omega (arith, ints))
      told false w nw n ne low a b e f p q r s = rw (p, q, r, s) (omega (arith, ints))

      told_twice : (c : Bool) (w nw n low : ℤ) (a b e : ℕ) → w ≡ low +ℤ pos a → nw ≡ low +ℤ pos b → n ≡ low +ℤ pos e
          → (if c then pos 4 *ℤ n else w +ℤ nw +ℤ pos 2 *ℤ n) ≡ pos 4 *ℤ low +ℤ sum_by c (pos a) (pos b) (pos e) (pos e)
      told_twice true w nw n low a b e p q r = rw r (omega (arith, ints))
      told_twice false w nw n low a b e p q r = rw (p, q, r) (omega (arith, ints))

  -- four times an offset, less the sum of offsets, is what it is of samples
  pub difference_told : (y' x' : ℕ) → y' ≤ y → x' < d.shape.columns → pos 4 *ℤ sample_at d z y' x' -ℤ local_sum p d z y x ≡ pos 4 *ℤ offset y' x' -ℤ offset_sum
  difference_told y' x' row column = rw (sum_told, sample y' x' row column) (omega (arith, ints))

  pub central_told : central_difference p d z y x ≡ pos 4 *ℤ offset y x -ℤ offset_sum
  unfolding central_difference
  central_told = difference_told y x (omega arith) place.column

  pub directions_told : directional_differences p d z y x ≡ (pos 4 *ℤ offset (y - 1) x -ℤ offset_sum) ∷ (pos 4 *ℤ offset y (x - 1) -ℤ offset_sum)
      ∷ (pos 4 *ℤ offset (y - 1) (x - 1) -ℤ offset_sum) ∷ []
  unfolding directional_differences
  directions_told =
      let n = difference_told (y - 1) x (omega arith) place.column in let w = difference_told y (x - 1) (omega arith) (let q = place.column in omega (arith, q)) in
      let nw = difference_told (y - 1) (x - 1) (omega arith) (let q = place.column in omega (arith, q)) in rw (← n, ← w, ← nw) (inside _ _ _ y x below left)
    where
      inside : (a b c : List ℤ) (y x : ℕ) → 0 < y → 0 < x → (if y == 0 then a else if x == 0 then b else c) ≡ c
      inside a b c y x h l = grind (arith, nat_tests, h, l)

-- the offset that is found is that of the sample whose residual it is
pub offset_found : (d : Image) (z y x : ℕ) (greatest part sum whole : ℤ) (delta : ℕ) → IsCube d → IsPlace d.shape z y x
    → smin d.kind +ℤ greatest ≡ smax d.kind → pos 4 *ℤ smin d.kind +ℤ sum ≡ whole
    → mapped d.kind (scaled_by_difference d.kind part whole) (sample_at d z y x) ≡ delta
    → offset_by greatest part sum (pos delta) ≡ pos (number_at d z y x)
offset_found d z y x greatest part sum whole delta cube there top is number =
    let told = number_is d z y x cube there in let inside = sample_within d cube z y x there in
    let span : smax d.kind -ℤ smin d.kind ≡ greatest = omega (arith, ints, top) in
    let scaled : ℤ = clip (floor_div (part +ℤ sum) 2 +ℤ pos 1) (pos 0) (pos 2 *ℤ greatest +ℤ pos 1) in
    let same = rw span at (offset_mapped (smin d.kind) (smid d.kind) (smax d.kind) part sum whole (number_at d z y x) is) in
    let delta_is : mapped_between (pos 0) greatest scaled (pos (number_at d z y x)) ≡ delta =
    same ∙ ap (mapped d.kind (scaled_by_difference d.kind part whole)) (sym told) ∙ number in
    let most : pos 0 ≤ℤ greatest = omega (arith, ints, top, inside.0, inside.1) in
    let within = clipped (floor_div (part +ℤ sum) 2 +ℤ pos 1) greatest most in
    rw (← delta_is) (sample_back (pos 0) greatest scaled within.0 within.1 (pos (number_at d z y x))
    (omega (arith, ints), omega (arith, ints, told, inside.1, top)))
  where
    clipped : (a g : ℤ) → pos 0 ≤ℤ g → ((pos 2 *ℤ pos 0) ≤ℤ clip a (pos 0) (pos 2 *ℤ g +ℤ pos 1)) × (clip a (pos 0) (pos 2 *ℤ g +ℤ pos 1) ≤ℤ (pos 2 *ℤ g +ℤ pos 1))
    clipped a g h = (omega (arith, ints, clamps, h), omega (arith, ints, clamps, h))
