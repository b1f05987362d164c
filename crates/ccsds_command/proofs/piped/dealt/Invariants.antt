use Rattle.std.proofs.Common.{◌≡◌, ◌%◌, map}
use Rattle.cube_core.specs.Order.{upto}
use Rattle.ccsds_command.proofs.piped.dealt.Given as goal

abbrev pub invariant-loop-z : goal.invariant-loop-z
invariant-loop-z l = l.deal.items ≡ map (λ z. z % l.predictors) (upto l.z)
