use Rattle.file_format.proofs.FileLaws.{one_file}
use Rattle.file_format.proofs.laws.one_file.Goals as goal

pub returns : goal.returns
returns c = one_file
