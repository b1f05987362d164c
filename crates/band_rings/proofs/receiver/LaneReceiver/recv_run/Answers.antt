use Rattle.std.proofs.Common.{rules}
use Rattle.band_rings.proofs.receiver.LaneReceiver.recv_run.Goals as goal

pub returns-clause-within : goal.returns-clause-within
returns-clause-within c = search

pub returns-clause-received : goal.returns-clause-received
returns-clause-received c = cc

pub returns-clause-rest : goal.returns-clause-rest
returns-clause-rest c = search

pub returns-clause-seen : goal.returns-clause-seen
returns-clause-seen c = search rules
