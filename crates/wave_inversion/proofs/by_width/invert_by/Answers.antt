use Rattle.std.proofs.Common.{subst}
use Rattle.wave_inversion.specs.declared.width.Width.{Width}
use Rattle.wave_inversion.specs.Inversion.{band_at}
use Rattle.wave_inversion.specs.WaveForms.{form_in}
use Rattle.wave_inversion.specs.WaveTiles.{IsFormOf}
use Rattle.wave_inversion.proofs.by_width.invert_by.Goals as goal

pub invert_narrow-requires-clause-form : goal.invert_narrow-requires-clause-form
unfolding form_in
invert_narrow-requires-clause-form c =
    subst (λ (f : Width). IsFormOf (form_in f) (band_at c.args.bands.now c.args.first).predictor c.args.cube.now c.args.y) c.in-Narrow.is c.requires.form

pub invert_long-requires-clause-form : goal.invert_long-requires-clause-form
unfolding form_in
invert_long-requires-clause-form c =
    subst (λ (f : Width). IsFormOf (form_in f) (band_at c.args.bands.now c.args.first).predictor c.args.cube.now c.args.y) c.in-Long.is c.requires.form
