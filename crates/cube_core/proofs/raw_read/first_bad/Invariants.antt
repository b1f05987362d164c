use Rattle.cube_core.specs.Raw.{AreSamples}
use Rattle.cube_core.proofs.raw_read.first_bad.Given as goal

abbrev pub invariant-loop-i : goal.invariant-loop-i
invariant-loop-i l = AreSamples l.kind l.layout l.bytes l.i
