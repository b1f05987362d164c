use Rattle.std.proofs.Common.{rules}
use Rattle.predict_core.proofs.exact_lanes.fits_narrow.Goals as goal

pub returns-then-omega-predictor : goal.returns-then-omega-predictor
returns-then-omega-predictor c h = record {
  register = search rules;
  omega_in = search rules;
  bits_in = search rules;
  least = search rules;
  most = search rules;
}
