use Rattle.ccsds123.proofs.LongFiles.{no_longer_file}
use Rattle.ccsds123.proofs.laws.no_longer_file.Goals as goal

pub returns : goal.returns
returns c = no_longer_file
