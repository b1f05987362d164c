use Rattle.cube_core.proofs.shape.Shape.bands.Goals as goal

pub returns : goal.returns
returns c = record { value = cc; range = c.self.invariant.bands }
