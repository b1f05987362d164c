use Rattle.file_format.proofs.FileLaws.{file_is_fine}
use Rattle.file_format.proofs.laws.file_is_fine.Goals as goal

pub returns : goal.returns
returns c = file_is_fine
