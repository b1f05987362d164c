use Rattle.std.proofs.Common.{rules}
use Rattle.predict_core.proofs.exact_lanes.is_narrow.Goals as goal

pub returns-then-settings-le12 : goal.returns-then-settings-le12
returns-then-settings-le12 c h =
    let fits = c.fits_narrow.ensures h in record {
      register = fits.register;
      omega_in = fits.omega_in;
      bits_in = search rules;
      least = fits.least;
      most = fits.most;
    }
