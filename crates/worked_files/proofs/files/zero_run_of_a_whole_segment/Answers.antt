use Rattle.std.proofs.Common.{refl}
use Rattle.worked_files.specs.Unfold.{everything}
use Rattle.worked_files.proofs.files.zero_run_of_a_whole_segment.Goals as goal

pub returns : goal.returns
unfolding everything
returns c = refl
