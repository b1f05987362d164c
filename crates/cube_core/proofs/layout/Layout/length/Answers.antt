use Rattle.cube_core.proofs.layout.Layout.length.Goals as goal

pub returns : goal.returns
returns c = cc
