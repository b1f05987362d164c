use Rattle.file_format.proofs.WrittenFiles.{no_shorter_file}
use Rattle.file_format.proofs.laws.no_shorter_file.Goals as goal

pub returns : goal.returns
returns c = no_shorter_file
