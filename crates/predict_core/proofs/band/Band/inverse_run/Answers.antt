use Rattle.predict_core.proofs.band.Band.inverse_run.Goals as goal

pub invert_run-requires-else-wraps-clause-register : goal.invert_run-requires-else-wraps-clause-register
invert_run-requires-else-wraps-clause-register c e = c.if-wraps.false
