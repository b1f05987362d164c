use Rattle.sample_prediction.proofs.Moves.{within_room}
use Rattle.predict_core.proofs.forward.chain.follow.Goals as goal

pub update_by-requires-clause-differences_in : goal.update_by-requires-clause-differences_in
update_by-requires-clause-differences_in g c = within_room _ _ _ c.step_shift.ensures.room c.requires.differences_in
