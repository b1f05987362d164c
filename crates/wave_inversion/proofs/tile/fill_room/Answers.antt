use Rattle.std.proofs.Common.{◌≡◌, ◌∙◌, ◌+◌, ◌-◌, ◌^◌, ◌<◌, ℕ, pos, ◌-ℤ◌, Some, List, min, length, take, drop, ap, subst, arith}
use Rattle.std.proofs.Common.{length-take, length-drop}
use Rattle.std.specs.List.{slice_get}
use Rattle.std.proofs.lemmas.Int.{ints}
use Rattle.std.proofs.lemmas.List.{get_or-take, get_or-drop}
use Rattle.std.proofs.lemmas.Option.{slice_get-get_or}
use Rattle.wave_inversion.specs.declared.form.Form.{Form}
use Rattle.predict_core.specs.Following.{PredictorState}
use Rattle.predict_core.specs.Following.{no_band}
use Rattle.wave_inversion.specs.Inversion.{band_at}
use Rattle.wave_inversion.specs.Wave.{AreOffsetRows}
use Rattle.wave_inversion.proofs.tile.fill_room.Given as given
use Rattle.wave_inversion.proofs.tile.fill_room.Goals as goal
use Rattle.wave_inversion.proofs.tile.fill_room.Goals.{After-fill_rows-2}

-- at most eight bands among all
of_eight : (bands : List PredictorState) (first last b : ℕ) → first < length bands → last ≡ min (length bands) (first + 8) → b < 8
    → slice_get (take (last - first) (drop first bands)) (min b (length (take (last - first) (drop first bands)) - 1))
    ≡ Some (band_at bands (min (first + b) (length bands - 1)))
of_eight bands first last b some whole fits =
    let k : ℕ = min (first + b) (length bands - 1) - first in
    let long : length (take (last - first) (drop first bands)) ≡ last - first =
    omega (arith, length-take {A = PredictorState}, length-drop {A = PredictorState}, some, whole) in
    let at : min b (length (take (last - first) (drop first bands)) - 1) ≡ k = omega (arith, long, fits, some, whole) in
    let inside : k < last - first = omega (arith, some, whole, fits) in
    let here : first + k ≡ min (first + b) (length bands - 1) = omega (arith, some) in
    ap (slice_get (take (last - first) (drop first bands))) at
    ∙ slice_get-get_or (take (last - first) (drop first bands)) k no_band (omega (arith, long, inside))
    ∙ ap (λ (v : PredictorState). Some v) (get_or-take (last - first) (drop first bands) k no_band inside ∙ get_or-drop first bands k no_band ∙ ap (band_at bands) here)

greatest_is : (f : Form) (bits : ℕ) → f.step.bits ≡ bits → pos (2 ^ bits) -ℤ pos 1 ≡ f.greatest
greatest_is f bits same = let e = f.greatest_is in let power = ap (λ (n : ℕ). 2 ^ n) same in omega (arith, ints, e, power)

module _ (g : given.Over) (c : After-fill_rows-2 g) where
  above_in : AreOffsetRows c.args.form.greatest c.fill_rows-2.new.rows
  above_in = subst (λ n. AreOffsetRows n c.fill_rows-2.new.rows) (greatest_is c.args.form _ c.requires.form.bits) c.fill_rows-2.ensures.within

  numbers_in : AreOffsetRows c.args.form.greatest c.fill_rows.new.rows
  numbers_in = subst (λ n. AreOffsetRows n c.fill_rows.new.rows) (greatest_is c.args.form _ c.requires.form.bits) c.fill_rows.ensures.within

pub fill_centrals-requires-clause-numbers_in : goal.fill_centrals-requires-clause-numbers_in
fill_centrals-requires-clause-numbers_in g c = numbers_in g (goal.at.fill_centrals-requires-clause-numbers_in g c).After-fill_rows-2

pub fill_centrals-requires-clause-above_in : goal.fill_centrals-requires-clause-above_in
fill_centrals-requires-clause-above_in g c = above_in g (goal.at.fill_centrals-requires-clause-above_in g c).After-fill_rows-2

pub returns : goal.returns
returns g c said =
    let d = (goal.at.returns g c).After-fill_rows-2 in record {
      above_is = c.fill_rows-2.ensures.numbers;
      numbers_is = c.fill_rows.ensures.numbers;
      near_is = c.fill_lower.ensures.near;
      beside_is = c.fill_lower.ensures.beside;
      far_is = c.fill_lower.ensures.far;
      own_is = c.fill_centrals.ensures.values;
      has = λ b fits.
          c.fill_weights.ensures c.if-not-fill_weights.false b (band_at c.args.bands.now (min (c.args.first + b) (length c.args.bands.now - 1))) fits
          (of_eight c.args.bands.now c.args.first c.min-last.result b c.requires.some c.min-last.ensures fits);
      above_in = above_in g d;
      numbers_in = numbers_in g d;
      lower_in = c.fill_lower.ensures.within;
      own_in = c.fill_centrals.ensures.below;
    }
