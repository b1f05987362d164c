use Rattle.lane_workers.proofs.gate.OpenGateGate.pass.Goals as goal

pub returns : goal.returns
returns c shut = absurd cc
