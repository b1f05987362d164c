use Rattle.predict_core.proofs.band.Band.piece_residual.Goals as goal

pub returns : goal.returns
returns c = cc
