use Rattle.std.proofs.Common.{◌+◌, refl, rules, SFits, w32, to_z-of_z}
use Rattle.header_bits.specs.Header.{coder_start}
use Rattle.header_bits.proofs.TablePassing.{start_again, coder_again}
use Rattle.header_bits.proofs.header.read_params.Goals as goal

pub returns-clause-params : goal.returns-clause-params
returns-clause-params c =
    let p = c.args.parts in
    let least : SFits w32 p.predictor.vmin = search rules in
    let greatest : SFits w32 p.predictor.vmax = search rules in
    rw (
      c.in_ok-start.ensures.start,
      c.in_ok-coder.ensures.coder,
      start_again p.image p.predictor p.weights.left,
      coder_again (coder_start p.image p.predictor + 16) p.image p.coder p.constants.left,
      to_z-of_z least,
      to_z-of_z greatest,
    ) refl
