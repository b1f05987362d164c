use Rattle.predict_core.proofs.band.Band.next.Goals as goal

pub returns : goal.returns
returns c = search
