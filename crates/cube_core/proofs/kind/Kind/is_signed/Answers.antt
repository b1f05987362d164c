use Rattle.cube_core.proofs.kind.Kind.is_signed.Goals as goal

pub returns : goal.returns
returns c = cc
