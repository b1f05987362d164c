-- What the places of a wavefront have in common, whatever the width of its lanes.
use Rattle.std.specs.Prelude.{ℕ, ℤ, Bool}
use Rattle.wave_inversion.specs.declared.form.Form.{Form}
use Rattle.wave_inversion.specs.declared.long.form.LongForm.{LongForm}
use Rattle.wave_inversion.specs.declared.width.Width.{Width}
use Rattle.wave_inversion.specs.declared.width.Width.TheVariants.{Narrow, Long}

-- whether the mode is reduced, and the sums are of columns; the greatest numbers of previous bands, and of pairs of components; the greatest offset; Ω, D, and ρ
pub record WaveForm : Type 0 where
  pub reduced : Bool
  pub column : Bool
  pub previous : ℕ
  pub pairs : ℕ
  pub greatest : ℤ
  pub omega : ℕ
  pub bits : ℕ
  pub exponent : ℤ

-- in lanes of 16 bits
abbrev pub narrow_form : Form → WaveForm
narrow_form f = record {
  reduced = f.reduced;
  column = f.column;
  previous = f.previous;
  pairs = f.pairs;
  greatest = f.greatest;
  omega = f.step.omega;
  bits = f.step.bits;
  exponent = f.step.exponent;
}

-- in lanes of 32 bits
abbrev pub long_form : LongForm → WaveForm
long_form f = record {
  reduced = f.reduced;
  column = f.column;
  previous = f.previous;
  pairs = f.pairs;
  greatest = f.greatest;
  omega = f.step.omega;
  bits = f.step.bits;
  exponent = f.step.exponent;
}

-- in lanes of either width
unfoldable pub form_in : Width → WaveForm
form_in (Narrow f) = narrow_form f
form_in (Long f) = long_form f
