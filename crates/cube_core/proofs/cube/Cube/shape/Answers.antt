use Rattle.cube_core.proofs.cube.Cube.shape.Goals as goal

pub returns : goal.returns
returns c = cc
