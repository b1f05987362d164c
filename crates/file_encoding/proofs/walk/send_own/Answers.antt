use Rattle.std.proofs.Common.{◌∙◌, ap, sym}
use Rattle.cube_core.specs.Shape.{Sizes}
use Rattle.cube_core.specs.Order.{upto}
use Rattle.file_encoding.specs.Own.{own}
use Rattle.file_encoding.proofs.walk.send_own.Goals as goal

pub send_bands-requires-clause-may : goal.send_bands-requires-clause-may
send_bands-requires-clause-may g c =
    let all = c.requires.bands.own ∙ ap (λ (s : Sizes). own c.args.predictor c.args.deal.now (upto s.bands)) (sym c.requires.image.shape) in
    rw all (rw c.in-Bsq.is at c.requires.may)

pub returns-in-Bsq : goal.returns-in-Bsq
returns-in-Bsq g c =
    let all = c.requires.bands.own ∙ ap (λ (s : Sizes). own c.args.predictor c.args.deal.now (upto s.bands)) (sym c.requires.image.shape) in
    rw c.in-Bsq.is (rw all at c.send_bands.ensures.sent)
