use Rattle.predict_core.proofs.band.first_spectral.Goals as goal

pub returns-then-reduced-clause-value : goal.returns-then-reduced-clause-value
returns-then-reduced-clause-value c = cc

pub returns-else-reduced-clause-value : goal.returns-else-reduced-clause-value
returns-else-reduced-clause-value c = cc
