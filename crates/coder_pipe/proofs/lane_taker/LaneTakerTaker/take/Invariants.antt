use Rattle.std.proofs.Common.{◌-◌, ◌≤◌, true, length, take}
use Rattle.coder_pipe.specs.Sends.{Sends}
use Rattle.coder_pipe.proofs.lane_taker.LaneTakerTaker.take.Given as goal

abbrev pub invariant-loop-first : goal.invariant-loop-first
invariant-loop-first g l = record { within : l.first ≤ length l.residuals; sent : Sends l.initial.self-inside.sender l.self-inside.sender true (take l.first l.residuals) }

abbrev pub decreases-loop-first : goal.decreases-loop-first
decreases-loop-first g l = length l.residuals - l.first
