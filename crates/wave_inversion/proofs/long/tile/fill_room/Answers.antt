use Rattle.std.proofs.Common.{◌≡◌, ◌^◌, ℕ, pos, ◌-ℤ◌, ap, subst, arith}
use Rattle.std.proofs.lemmas.Int.{ints}
use Rattle.wave_inversion.specs.declared.long.form.LongForm.{LongForm}
use Rattle.wave_inversion.specs.Wave.{AreOffsetRows}
use Rattle.wave_inversion.proofs.long.tile.fill_room.Given as given
use Rattle.wave_inversion.proofs.long.tile.fill_room.Goals as goal
use Rattle.wave_inversion.proofs.long.tile.fill_room.Goals.{After-fill_rows-2}

greatest_is : (f : LongForm) (bits : ℕ) → f.step.bits ≡ bits → pos (2 ^ bits) -ℤ pos 1 ≡ f.greatest
greatest_is f bits same = let e = f.greatest_is in let power = ap (λ (n : ℕ). 2 ^ n) same in omega (arith, ints, e, power)

module _ (g : given.Over) (c : After-fill_rows-2 g) where
  above_in : AreOffsetRows c.args.form.greatest c.fill_rows-2.new.rows
  above_in = subst (λ n. AreOffsetRows n c.fill_rows-2.new.rows) (greatest_is c.args.form _ c.requires.form.bits) c.fill_rows-2.ensures.within

  numbers_in : AreOffsetRows c.args.form.greatest c.fill_rows.new.rows
  numbers_in = subst (λ n. AreOffsetRows n c.fill_rows.new.rows) (greatest_is c.args.form _ c.requires.form.bits) c.fill_rows.ensures.within

pub fill_centrals-requires-clause-numbers_in : goal.fill_centrals-requires-clause-numbers_in
fill_centrals-requires-clause-numbers_in g c = numbers_in g (goal.at.fill_centrals-requires-clause-numbers_in g c).After-fill_rows-2

pub fill_centrals-requires-clause-above_in : goal.fill_centrals-requires-clause-above_in
fill_centrals-requires-clause-above_in g c = above_in g (goal.at.fill_centrals-requires-clause-above_in g c).After-fill_rows-2

pub returns : goal.returns
returns g c =
    let d = (goal.at.returns g c).After-fill_rows-2 in record {
      above_is = c.fill_rows-2.ensures.numbers;
      numbers_is = c.fill_rows.ensures.numbers;
      near_is = c.fill_lower.ensures.near;
      beside_is = c.fill_lower.ensures.beside;
      far_is = c.fill_lower.ensures.far;
      own_is = c.fill_centrals.ensures.values;
      has = c.fill_weights.ensures;
      above_in = above_in g d;
      numbers_in = numbers_in g d;
      lower_in = c.fill_lower.ensures.within;
      own_in = c.fill_centrals.ensures.below;
    }
