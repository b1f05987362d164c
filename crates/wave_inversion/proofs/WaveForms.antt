-- The form of a wavefront, for images of one shape and kind, and the constants of its bands.
use Rattle.std.proofs.Common.{◌≡◌, ◌<◌, ℕ, List, ◌∙◌, sym, ap}
use Rattle.cube_core.specs.Shape.{Sizes}
use Rattle.cube_core.specs.Kind.{SampleKind}
use Rattle.cube_core.specs.Image.{Image}
use Rattle.header_bits.specs.declared.params.Params.{Params}
use Rattle.sample_prediction.specs.declared.predictor.Predictor.{Predictor}
use Rattle.predict_core.specs.Following.{PredictorState}
use Rattle.wave_inversion.specs.Inversion.{IsInverting, band_at}
use Rattle.predict_core.specs.Precedence.{AreAlike}
use Rattle.wave_inversion.specs.WaveForms.{WaveForm}
use Rattle.wave_inversion.specs.WaveTiles.{IsFormOf}
use Rattle.std.proofs.Common.{◌≤◌, ◌+◌, min, Bool, true, false, if◌then◌else◌, refl, arith}
use Rattle.sample_prediction.specs.Predictor.{previous_bands, component_count}
use Rattle.predict_core.specs.declared.settings.Settings.{Settings}

pub form_same : {f : WaveForm} {m : Predictor} {c : Image} {y : ℕ} (d : Image) → AreAlike c d → IsFormOf f m c y → IsFormOf f m d y
form_same {f} {m} {c} {y} d alike form =
    let bits = ap (λ (k : SampleKind). k.bits) alike.kind in
    let columns = ap (λ (s : Sizes). s.columns) alike.shape in record {
      register = rw bits at form.register;
      enough = form.enough;
      reduced = form.reduced;
      column = form.column;
      previous = form.previous;
      greatest = rw alike.kind at form.greatest;
      omega = form.omega;
      bits = form.bits ∙ bits;
      exponent = λ x h. rw (columns, bits) at (form.exponent x (rw (← columns) at h));
    }

-- the bands' parameters don't change
pub same_predictor : {p : Params} {c d e : Image} {old new : List PredictorState} → IsInverting p c d old → IsInverting p e d new → (z : ℕ) → z < p.shape.bands
    → (band_at old z).predictor ≡ (band_at new z).predictor
same_predictor was is z h = (was.each z h).follows.made.predictor ∙ sym (is.each z h).follows.made.predictor

-- at most 15 previous bands have at most 18 components
pub counted : (reduced : Bool) (z previous : ℕ) → previous ≤ 15 → (if reduced then min z previous else 3 + min z previous) ≤ 18
counted true z previous h = omega (arith, h)
counted false z previous h = omega (arith, h)

-- the constants of one band are those of each, but for its number
abbrev pub constants_at : Settings → ℕ → Settings
constants_at s z = record {
  predictor = s.predictor;
  range = s.range;
  columns = s.columns;
  band = z;
  near = previous_bands s.predictor z;
  count = component_count s.predictor z;
  lawful = s.lawful;
  columns_in = s.columns_in;
  near_is = refl;
  count_is = refl;
  few = counted s.predictor.reduced z s.predictor.previous s.lawful.few;
  wide = s.wide;
}
