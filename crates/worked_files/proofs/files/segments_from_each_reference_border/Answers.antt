use Rattle.std.proofs.Common.{refl}
use Rattle.worked_files.specs.Unfold.{everything}
use Rattle.worked_files.proofs.files.segments_from_each_reference_border.Goals as goal

pub returns : goal.returns
unfolding everything
returns c = refl
