use Rattle.cube_core.proofs.cube.Cube.kind.Goals as goal

pub returns : goal.returns
returns c = cc
