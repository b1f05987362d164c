use Rattle.cube_core.proofs.kind.Kind.bits.Goals as goal

pub returns : goal.returns
returns c = record { value = cc; range = c.self.invariant }
