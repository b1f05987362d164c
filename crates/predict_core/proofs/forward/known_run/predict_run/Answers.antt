use Rattle.predict_core.proofs.forward.known_run.predict_run.Goals as goal

pub predict_in-requires-else-wraps : goal.predict_in-requires-else-wraps
predict_in-requires-else-wraps c = record {
  register = λ e. c.if-wraps.false;
  run = c.requires.run;
}
